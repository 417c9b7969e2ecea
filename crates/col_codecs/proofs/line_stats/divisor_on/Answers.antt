use Rattle.std.proofs.Common.{◌<◌, ◌%◌, sym, ◌∙◌, arith}
use Rattle.col_model.specs.Stats.{least_of, greatest_of}
use Rattle.col_model.proofs.DivisorLaws.{divisor-is-greatest}
use Rattle.col_codecs.specs.OnLine.{on_line, values_on}
use Rattle.col_codecs.proofs.LineStatsLemmas.{divisor-by}
use Rattle.col_codecs.proofs.OnLineLemmas.{within-bounds}
use Rattle.col_codecs.proofs.line_stats.divisor_on.Goals as goal

pub returns-then-bounds : goal.returns-then-bounds
returns-then-bounds c =
    let are = c.requires.bounds in
    sym (divisor-is-greatest.one (values_on c.args.line 0 c.args.count) (sym are.least ∙ c.if-bounds.true ∙ are.greatest))

pub returns-then-is_kept : goal.returns-then-is_kept
returns-then-is_kept c =
    let l = c.args.line in
    let xs = values_on l 0 c.args.count in
    let are = c.requires.bounds in
    let w = within-bounds l c.args.bounds 0 c.args.count 0 are (omega arith) (omega arith) in
    let apart : least_of xs < greatest_of xs = omega (arith, w.0, w.1, are.least, are.greatest, c.if-bounds.false) in
    divisor-by xs c.sample_on-sample.result.gcd (on_line l 0 % c.sample_on-sample.result.gcd) are.some apart
    (c.is_kept.ensures c.if-is_kept.true)
    (λ d r positive left. c.sample_on-sample.ensures.top d r positive left c.if-sample.true)
