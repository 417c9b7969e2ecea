use Rattle.std.proofs.Common.{◌≡◌, ◌+◌, ap, ◌∙◌, arith, ℕ, min, max, refl}
use Rattle.std.specs.Int.{abs_diff}
use Rattle.col_model.specs.Stats.{gcd}
use Rattle.col_codecs.specs.ColumnStats.{Collected, collected_of}
use Rattle.col_codecs.specs.declared.stats_collector.StatsCollector.TheInside.{Inside}
use Rattle.col_codecs.proofs.StatsLemmas.{collected-first, collected-more}
use Rattle.col_codecs.proofs.stats_collector.StatsCollector.collect.Goals.{then-self-eq0, else-self-eq0}
use Rattle.col_codecs.proofs.stats_collector.StatsCollector.collect.Goals as goal

-- what is seen of the fields, with so many values
abbrev seen : Inside → ℕ → Collected
seen s n = record { least = s.min_value; greatest = s.max_value; divisor = s.increment_gcd; count = n }

widened : (s : Inside) (x low high finer d : ℕ) → low ≡ min s.min_value x → high ≡ max s.max_value x
    → d ≡ abs_diff x s.min_value → finer ≡ gcd s.increment_gcd d
    → let narrow : Collected = record { least = low; greatest = high; divisor = finer; count = s.num_rows + 1 } in
    let wide : Collected = record {
      least = min s.min_value x;
      greatest = max s.max_value x;
      divisor = gcd s.increment_gcd (abs_diff x s.min_value);
      count = s.num_rows + 1;
    } in narrow ≡ wide
widened s x low high finer d p q e f = cc

pub returns : goal.returns
returns c = λ xs e.
    let s = c.self.inside in
    let was : seen s s.num_rows ≡ collected_of xs = c.self.view_is ∙ e in
    elim c.if-self-eq0.branch [
      | then-self-eq0 w ↦ ap (λ (k : Inside). seen k (k.num_rows + 1)) w.self-inside-is
          ∙ collected-first (seen s s.num_rows) xs c.args.value w.if-self-eq0.true was
      | else-self-eq0 w ↦
          ap (λ (k : Inside). seen k (k.num_rows + 1)) w.self-inside-is
          ∙ widened s c.args.value w.min-self-inside.result w.max-self-inside.result w.finer_gcd-self-inside.result
          w.abs_diff-difference.result w.min-self-inside.ensures w.max-self-inside.ensures
          w.abs_diff-difference.ensures w.finer_gcd-self-inside.ensures
          ∙ collected-more (seen s s.num_rows) xs c.args.value _ (omega arith) refl was
    ]
