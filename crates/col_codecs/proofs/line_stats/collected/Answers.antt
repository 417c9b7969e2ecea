use Rattle.std.proofs.Common.{◌≡◌, ◌+◌, ◌++◌, ◌∷◌, [], ◌∙◌, ap, arith}
use Rattle.std.proofs.lemmas.List.FromFn.{length-map-range_with_len}
use Rattle.col_codecs.specs.ColumnStats.{collected_of}
use Rattle.col_codecs.specs.OnLine.{on_line, values_on}
use Rattle.col_codecs.proofs.OnLineLemmas.{range-pushed}
use Rattle.col_codecs.proofs.StatsLemmas.{collected-count}
use Rattle.col_codecs.proofs.line_stats.collected.Goals as goal

pub collect-requires : goal.collect-requires
collect-requires c =
    let l = c.args.line in
    omega (
      arith,
      collected-count c.loop-x.collector (values_on l 0 c.loop-x.x) c.loop-x.invariant,
      length-map-range_with_len (on_line l) 0 c.loop-x.x,
    )

pub loop-x-preserved : goal.loop-x-preserved
loop-x-preserved c =
    let l = c.args.line in
    let x = c.loop-x.x in
    c.collect.ensures (values_on l 0 x) c.loop-x.invariant
    ∙ ap (λ y. collected_of (values_on l 0 x ++ y ∷ [])) (c.eval.ensures ∙ ap (on_line l) (let e : x ≡ 0 + x = omega arith in e))
    ∙ ap collected_of (range-pushed (on_line l) 0 x)
