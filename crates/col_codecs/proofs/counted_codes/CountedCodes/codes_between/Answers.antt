use Rattle.std.proofs.Common.{◌≡◌, ◌+◌, ◌*◌, ap, sym, ◌∙◌, subst, arith}
use Rattle.std.specs.Int.{is_in_range, div_ceil}
use Rattle.std.specs.Range.{range_inclusive_start, range_inclusive_end}
use Rattle.col_model.specs.Stats.{Stats}
use Rattle.col_codecs.proofs.FoundLemmas.{steps_within}
use Rattle.col_codecs.proofs.counted_codes.CountedCodes.codes_between.Goals as goal

pub returns : goal.returns
returns g c =
    let a = c.args in
    let s = c.self.inside.stats in
    let ends = c.new-2.result in
    let first = c.new-2.ensures.start ∙ (c.div_ceil-first.ensures ∙ ap (λ n. div_ceil n s.gcd) c.saturating_sub.ensures) in
    record {
      codes = λ k.
          subst (λ (t : Stats). is_in_range a.low a.high (t.least + t.divisor * k)
          ≡ is_in_range (range_inclusive_start ends) (range_inclusive_end ends) k) c.self.view_is
          (steps_within s.min_value s.gcd a.low a.high k c.self.invariant c.if-high-min_value.false
          ∙ (λ i. is_in_range (sym first i) (sym c.new-2.ensures.«end» i) k));
      steps = omega (arith, c.tick.ensures, c.tick-2.ensures);
    }
