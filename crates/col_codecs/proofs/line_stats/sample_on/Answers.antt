use Rattle.std.proofs.Common.{◌≡◌, ◌<◌, ◌≤◌, ◌++◌, ◌∷◌, [], length, arith, ap, ◌∙◌}
use Rattle.std.proofs.lemmas.List.FromFn.{length-map-range_with_len}
use Rattle.col_codecs.specs.OnLine.{on_line, values_on}
use Rattle.col_codecs.proofs.BoundsLemmas.{stats_of-least, stats_of-greatest}
use Rattle.col_model.proofs.OneFormLaws.{divisor-positive}
use Rattle.col_codecs.proofs.LineStatsLemmas.{count-more, sample, sample-top}
use Rattle.col_codecs.proofs.StatsLemmas.{collected-count}
use Rattle.col_codecs.proofs.line_stats.sample_on.Goals as goal

pub collect-requires : goal.collect-requires
collect-requires c =
    let l = c.args.line in
    omega (
      arith,
      collected-count c.collected-collector.result (values_on l 0 1024) c.collected-collector.ensures,
      length-map-range_with_len (on_line l) 0 1024,
    )

pub collect-requires-2 : goal.collect-requires-2
collect-requires-2 c =
    let xs = values_on c.args.line 0 1024 in
    let long : length xs ≤ 1024 = omega (arith, length-map-range_with_len (on_line c.args.line) 0 1024) in
    omega (arith, (count-more c.collect.new.self xs c.args.bounds.least 1024 long (c.collect.ensures xs c.collected-collector.ensures)).0)

pub collect-requires-3 : goal.collect-requires-3
collect-requires-3 c =
    let xs = values_on c.args.line 0 1024 in
    let ys = xs ++ c.args.bounds.least ∷ [] in
    let long : length xs ≤ 1024 = omega (arith, length-map-range_with_len (on_line c.args.line) 0 1024) in
    let first = c.collect.ensures xs c.collected-collector.ensures in
    omega (
      arith,
      (count-more c.collect-2.new.self ys c.args.bounds.greatest 1025
          (count-more c.collect.new.self xs c.args.bounds.least 1024 long first).1
          (c.collect-2.ensures ys first)).0,
    )

pub collect-requires-4 : goal.collect-requires-4
collect-requires-4 c =
    let b = c.args.bounds in
    let xs = values_on c.args.line 0 1024 in
    let ys = xs ++ b.least ∷ [] in
    let zs = ys ++ b.greatest ∷ [] in
    let long : length xs ≤ 1024 = omega (arith, length-map-range_with_len (on_line c.args.line) 0 1024) in
    let first = c.collect.ensures xs c.collected-collector.ensures in
    let second = c.collect-2.ensures ys first in
    let two = (count-more c.collect-2.new.self ys b.greatest 1025 (count-more c.collect.new.self xs b.least 1024 long first).1 second).1 in
    omega (arith, (count-more c.collect-3.new.self zs c.eval.result 1026 two (c.collect-3.ensures zs second)).0)

pub returns-clause-positive : goal.returns-clause-positive
returns-clause-positive c =
    let b = c.args.bounds in
    let ys = values_on c.args.line 0 1024 ++ b.least ∷ [] in
    let zs = ys ++ b.greatest ∷ [] in
    let ws = zs ++ c.eval.result ∷ [] in
    let four = c.collect-4.ensures ws (c.collect-3.ensures zs (c.collect-2.ensures ys
    (c.collect.ensures (values_on c.args.line 0 1024) c.collected-collector.ensures))) in
    let is = c.stats.ensures (ws ++ c.eval-2.result ∷ []) four in
    omega (arith, ap (λ s. s.divisor) is, divisor-positive (ws ++ c.eval-2.result ∷ []))

pub returns-clause-top : goal.returns-clause-top
returns-clause-top c =
    let l = c.args.line in
    let n = c.args.count in
    let many : 1024 ≤ n = omega (arith, c.requires.many) in
    let i : c.min.result < n = omega (arith, c.requires.many, c.min.ensures, c.from-last.ensures) in
    let j : c.min-2.result < n = omega (arith, c.requires.many, c.min-2.ensures, c.from-last.ensures) in
    let b = c.args.bounds in
    let xs = values_on l 0 1024 in
    let ys = xs ++ b.least ∷ [] in
    let zs = ys ++ b.greatest ∷ [] in
    let ws = zs ++ c.eval.result ∷ [] in
    let four = c.collect-4.ensures ws (c.collect-3.ensures zs (c.collect-2.ensures ys
    (c.collect.ensures xs c.collected-collector.ensures))) in
    let list = ws ++ c.eval-2.result ∷ [] in
    let same : list ≡ sample l 1024 b c.min.result c.min-2.result = ap (λ v. (zs ++ v ∷ []) ++ c.eval-2.result ∷ []) c.eval.ensures
    ∙ ap (λ v. (zs ++ on_line l c.min.result ∷ []) ++ v ∷ []) c.eval-2.ensures in
    let is = c.stats.ensures list four in
    λ d r positive left apart.
    sample-top l n 1024 c.min.result c.min-2.result d r c.stats.result.gcd b many i j c.requires.bounds positive left
    c.stats.result.min_value c.stats.result.max_value apart list same
    (ap (λ s. s.least) is ∙ stats_of-least list) (ap (λ s. s.greatest) is ∙ stats_of-greatest list) (ap (λ s. s.divisor) is)
