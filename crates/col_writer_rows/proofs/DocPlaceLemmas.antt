-- The document at a place.
use Rattle.std.proofs.Common.{◌≡◌, ◌<◌, ◌≤◌, ℕ, zero, suc, ◌+◌, ◌-◌, List, ◌++◌, length, Some, refl, sym, ◌∙◌, ap, arith, get_or}
use Rattle.std.specs.Prelude.{slice_get}
use Rattle.std.specs.List.{range_with_len}
use Rattle.std.proofs.lemmas.Option.{slice_get_read}
use Rattle.col_writer_rows.specs.Documents.{dense_then}
use Rattle.col_writer_rows.proofs.DocumentLemmas.{length-dense_then}

-- a place within a range
range-place : (a n : ℕ) (ys : List ℕ) (k : ℕ) → k < n → slice_get (range_with_len a n ++ ys) k ≡ Some (a + k)
range-place a zero ys k h = absurd (omega arith)
range-place a (suc n) ys zero h = let same : a ≡ a + 0 = omega arith in ap Some same
range-place a (suc n) ys (suc k) h =
    let same : (a + 1) + k ≡ a + suc k = omega arith in range-place (a + 1) n ys k (omega arith) ∙ ap Some same

-- a place behind it
behind-range : (a n : ℕ) (ys : List ℕ) (k : ℕ) → n ≤ k → slice_get (range_with_len a n ++ ys) k ≡ slice_get ys (k - n)
behind-range a zero ys k h = let same : k ≡ k - 0 = omega arith in ap (slice_get ys) same
behind-range a (suc n) ys zero h = absurd (omega arith)
behind-range a (suc n) ys (suc k) h =
    let same : k - n ≡ suc k - suc n = omega arith in behind-range (a + 1) n ys k (omega arith) ∙ ap (slice_get ys)
    same

-- among the first documents each stands at its own place
pub dense-place : (n : ℕ) (others docs : List ℕ) (k : ℕ) → dense_then n others ≡ docs → k < n → slice_get docs k ≡ Some k
unfolding dense_then
dense-place n others docs k is h =
    let same : 0 + k ≡ k = omega arith in ap (λ r. slice_get r k) (sym is) ∙ range-place 0 n others k h ∙ ap Some
    same

-- a document behind the dense ones stands among the others
pub others-within : (n : ℕ) (others docs : List ℕ) (k : ℕ) → dense_then n others ≡ docs → n ≤ k → k < length docs → k - n < length others
others-within n others docs k is up h = omega (arith, ap length is, length-dense_then n others)

-- behind them it is one of the others
pub others-place : (n : ℕ) (others docs : List ℕ) (k x : ℕ) → dense_then n others ≡ docs → n ≤ k → k < length docs
    → x ≡ get_or others (k - n) x → slice_get docs k ≡ Some x
unfolding dense_then
others-place n others docs k x is up h e =
    ap (λ r. slice_get r k) (sym is) ∙ behind-range 0 n others k up
    ∙ slice_get_read others (length others) (k - n) x refl (others-within n others docs k is up h) e
