-- The records that are left of a text.
use Rattle.std.proofs.Common.{◌≡◌, ◌∙◌, ◌≤◌, ◌+◌, ℕ, zero, suc, Bool, true, false, cond, List, [], ◌∷◌, length, Some, None, refl, sym, ap, arith}
use Rattle.std.specs.Prelude.{Option}
use Rattle.csv.specs.Machine.{Read, ends_at_end, next_record}
use Rattle.csv.specs.Reading.{default_config, is_bom, records, records_from, records_next, strip_bom}
use Rattle.csv.specs.declared.parser.State.{State}
use Rattle.csv.specs.declared.parser.State.TheVariants as st
use Rattle.col_csv_import.proofs.StepLemmas.{nothing-read, read-is}

-- a list of no items is empty
no-bytes : (xs : List ℕ) → length xs ≤ 0 → xs ≡ []
no-bytes [] h = refl
no-bytes (x ∷ xs) h = absurd (omega arith)

-- where none is read, there are none
none-from : (n : ℕ) (s : State) (xs : List ℕ) → next_record default_config s [] [] xs ≡ None → records_from default_config n s xs ≡ []
unfolding records_from
none-from zero s xs e = refl
none-from (suc n) s xs e = ap (records_next (records_from default_config n)) e

-- each count that is large enough gives the same records
same-left : (n m : ℕ) (s : State) (xs : List ℕ) → length xs ≤ n → length xs ≤ m → ends_at_end s ≡ false
    → records_from default_config n s xs ≡ records_from default_config m s xs
unfolding records_from
same-left zero m s xs a b e =
    let none : next_record default_config s [] [] xs ≡ None =
    ap (λ ys. next_record default_config s [] [] ys) (no-bytes xs a) ∙ nothing-read s e in
    none-from zero s xs none ∙ sym (none-from m s xs none)
same-left (suc n) zero s xs a b e =
    let none : next_record default_config s [] [] xs ≡ None =
    ap (λ ys. next_record default_config s [] [] ys) (no-bytes xs b) ∙ nothing-read s e in
    none-from (suc n) s xs none ∙ sym (none-from zero s xs none)
same-left (suc n) (suc m) s xs a b e = by (next_record default_config s [] [] xs) refl (same-left n m)
  where
    by : (o : Option Read) → next_record default_config s [] [] xs ≡ o
        → ((s : State) (ys : List ℕ) → length ys ≤ n → length ys ≤ m → ends_at_end s ≡ false
        → records_from default_config n s ys ≡ records_from default_config m s ys)
        → records_next (records_from default_config n) o ≡ records_next (records_from default_config m) o
    by None is later = refl
    by (Some p) is later =
        let h = read-is s [] [] xs p is in
        ap (λ rs. p.0 ∷ rs) (later p.1 p.2 (omega (arith, h.shorter)) (omega (arith, h.shorter)) h.between)

-- the records of a text from a state between two records
abbrev pub left_from : State → List ℕ → List (List (List ℕ))
left_from s xs = records_from default_config (length xs) s xs

-- one record is read, and the others are left
pub left-read : (s : State) (xs : List ℕ) (p : Read) → ends_at_end s ≡ false
    → next_record default_config s [] [] xs ≡ Some p → left_from s xs ≡ p.0 ∷ left_from p.1 p.2
unfolding records_from
left-read s [] p e is = absurd (cc (sym (nothing-read s e) ∙ is))
left-read s (x ∷ xs) p e is =
    let h = read-is s [] [] (x ∷ xs) p is in
    ap (records_next (records_from default_config (length xs))) is
    ∙ ap (λ rs. p.0 ∷ rs) (same-left (length xs) (length p.2) p.1 p.2 (omega (arith, h.shorter)) (omega arith) h.between)

-- none is left where none is read
pub left-none : (s : State) (xs : List ℕ) → next_record default_config s [] [] xs ≡ None → left_from s xs ≡ []
left-none s xs e = none-from (length xs) s xs e

-- the records of a text are those that are left at its start
pub left-all : (xs : List ℕ) → left_from st.StartRecord xs ≡ records default_config xs
left-all xs = same-left (length xs) (length xs + 1) st.StartRecord xs (omega arith) (omega arith) refl

-- no more records are left than bytes
few-from : (n : ℕ) (s : State) (xs : List ℕ) → length (records_from default_config n s xs) ≤ n
unfolding records_from
few-from zero s xs = omega arith
few-from (suc n) s xs = by (next_record default_config s [] [] xs) (few-from n)
  where
    by : (o : Option Read) → ((s : State) (xs : List ℕ) → length (records_from default_config n s xs) ≤ n)
        → length (records_next (records_from default_config n) o) ≤ suc n
    by None later = omega arith
    by (Some p) later = let h = later p.1 p.2 in omega arith

pub left-few : (s : State) (xs : List ℕ) → length (left_from s xs) ≤ length xs
left-few s xs = few-from (length xs) s xs

-- a text without its byte order mark isn't longer
pub strip-few : (xs : List ℕ) → length (strip_bom xs) ≤ length xs
unfolding strip_bom
strip-few [] = omega arith
strip-few (a ∷ []) = omega arith
strip-few (a ∷ b ∷ []) = omega arith
strip-few (a ∷ b ∷ c ∷ rest) = by (is_bom a b c)
  where
    by : (marked : Bool) → length (cond marked rest (a ∷ b ∷ c ∷ rest)) ≤ length (a ∷ b ∷ c ∷ rest)
    by true = omega arith
    by false = omega arith
