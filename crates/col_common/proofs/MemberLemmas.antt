-- The numbers whose flags are set, from a place on.
use Rattle.std.proofs.Common.{◌≡◌, ℕ, zero, suc, ◌+◌, ◌-◌, ◌<◌, ◌≤◌, Bool, true, false, cond, List, [], ◌∷◌, length, get_or, refl, ap, ◌∙◌, arith}
use Rattle.std.specs.List.{range_with_len, filter}
use Rattle.col_common.specs.Flags.{members_from}

-- a place past the last one
pub members_end : (flags : List Bool) (from : ℕ) → length flags ≤ from → members_from flags from ≡ []
unfolding members_from
members_end flags from h =
    let none : length flags - from ≡ 0 = omega arith in
    ap (λ n. filter (λ k. get_or flags k false) (range_with_len from n)) none

skipped : (test : ℕ → Bool) (from n : ℕ) → test from ≡ false
    → filter test (range_with_len from n) ≡ filter test (range_with_len (from + 1) (n - 1))
skipped test from zero h = refl
skipped test from (suc n) h =
    let rest = filter test (range_with_len (from + 1) n) in
    ap (λ b. cond b (from ∷ rest) rest) h ∙ ap (λ m. filter test (range_with_len (from + 1) m)) (omega arith)

taken : (test : ℕ → Bool) (from n : ℕ) → 0 < n → test from ≡ true
    → filter test (range_with_len from n) ≡ from ∷ filter test (range_with_len (from + 1) (n - 1))
taken test from zero some h = absurd (omega arith)
taken test from (suc n) some h =
    let rest = filter test (range_with_len (from + 1) n) in
    ap (λ b. cond b (from ∷ rest) rest) h ∙ ap (λ m. from ∷ filter test (range_with_len (from + 1) m)) (omega arith)

-- a place whose flag is set
pub members_more : (flags : List Bool) (from : ℕ) → from < length flags → get_or flags from false ≡ true
    → members_from flags from ≡ from ∷ members_from flags (from + 1)
unfolding members_from
members_more flags from h here =
    taken (λ k. get_or flags k false) from (length flags - from) (omega arith) here
    ∙ ap (λ m. from ∷ filter (λ k. get_or flags k false) (range_with_len (from + 1) m)) (omega arith)

members_less : (flags : List Bool) (from : ℕ) → get_or flags from false ≡ false → members_from flags from ≡ members_from flags (from + 1)
unfolding members_from
members_less flags from here =
    skipped (λ k. get_or flags k false) from (length flags - from) here
    ∙ ap (λ m. filter (λ k. get_or flags k false) (range_with_len (from + 1) m)) (omega arith)

-- places whose flags are not set
pub members_skip : (flags : List Bool) (from n to : ℕ) → from + n ≡ to
    → ((k : ℕ) → from ≤ k → k < to → get_or flags k false ≡ false) → members_from flags from ≡ members_from flags to
members_skip flags from zero to e none = ap (members_from flags) (omega arith)
members_skip flags from (suc n) to e none =
    members_less flags from (none from (omega arith) (omega arith))
    ∙ members_skip flags (from + 1) n to (omega arith) (λ k h below. none k (omega arith) below)
