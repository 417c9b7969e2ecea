use Rattle.std.proofs.Common.{◌≡◌, ℕ, ◌≤◌, List, subst}
use Rattle.std.specs.Int.{is_in_range}
use Rattle.std.specs.Range.{range_inclusive_start, range_inclusive_end}
use Rattle.col_model.specs.AddressList.{code_count, coded_number}
use Rattle.col_compact.proofs.OrderLemmas.{both_ends}
use Rattle.col_compact.proofs.counted_codes.CountedCodes.codes_between.Goals as goal

pub returns-clause-codes : goal.returns-clause-codes
returns-clause-codes g c =
    let rs = c.self.inside.space.now in
    let first = c.new.ensures.start in
    let last = c.new.ensures.end in
    subst (λ (xs : List (ℕ × ℕ)). (k : ℕ) → 1 ≤ k → k ≤ code_count xs
    → is_in_range c.args.low c.args.high (coded_number xs k)
    ≡ is_in_range (range_inclusive_start c.new.result) (range_inclusive_end c.new.result) k)
    c.self.view_is
    (λ k one upto. rw (first, last) (both_ends c.args.low c.args.high (coded_number rs k) k c.code_up-first.result
    c.code_above-past.result c.saturating_sub.result one c.saturating_sub.ensures
    (c.code_up-first.ensures k one upto) (c.code_above-past.ensures k one upto)))
