-- The types of numbers, of which the first are the same.
use Rattle.std.proofs.Common.{◌≡◌, ◌<◌, ◌≤◌, ℕ, zero, suc, ◌+◌, ◌-◌, List, [], ◌∷◌, ◌++◌, length, take, map, Bool, true, false, Option, Some, None, refl, sym, ◌∙◌, ap, arith, append_assoc, length-append, ⊎_elim, append-nil}
use Rattle.std.specs.Prelude.{is_some, not, MatchOption, option_to_list, replicate, slice_get, get_or}
use Rattle.std.proofs.lemmas.Option.{slice_get_read}
use Rattle.std.proofs.lemmas.List.{replicate_more, length-replicate, length-map}
use Rattle.std.specs.List.{list_all}
use Rattle.std.proofs.lemmas.Bool.{and_from}
use Rattle.col_model.specs.ColumnType.{ColumnType, is_numerical}
use Rattle.col_types.specs.declared.numerical_type.NumericalType.{NumericalType}
use Rattle.col_types.specs.declared.numerical_type.NumericalType.TheVariants.{I64, U64}
use Rattle.col_types.specs.Kinds.{numerical_kind_of}
use Rattle.col_writer_rows.proofs.CutLemmas.{before_last}
use Rattle.col_writer_columns.specs.Values.{same_then, TypeGoesOn}

-- a mapped list with an item more is the list mapped, and the item's image
pub map-push : {A B : Type 0} (f : A → B) (xs : List A) (x : A) → map f (xs ++ x ∷ []) ≡ map f xs ++ f x ∷ []
map-push f [] x = refl
map-push f (y ∷ xs) x = ap (λ r. f y ∷ r) (map-push f xs x)

-- a type no times and no others are no types
pub same_then-none : same_then 0 I64 [] ≡ []
unfolding same_then
same_then-none = refl

-- the next type goes on with the first one, and is counted
pub same_then-next : (n : ℕ) (first next : NumericalType) (others : List NumericalType) (ts : List ColumnType)
    → same_then n first others ≡ ts → TypeGoesOn first n others next
    → same_then (n + 1) next others ≡ ts ++ numerical_kind_of next ∷ []
unfolding same_then
same_then-next n first next others ts is h =
    let alone = ap (map numerical_kind_of) h.alone in
    let whole : replicate n (numerical_kind_of first) ≡ ts =
    sym (append-nil _) ∙ ap (λ r. replicate n (numerical_kind_of first) ++ r) (sym alone) ∙ is in
    let same : replicate n (numerical_kind_of first) ≡ replicate n (numerical_kind_of next) =
    ⊎_elim (λ z. ap (λ k. replicate k (numerical_kind_of first)) z
    ∙ sym (ap (λ k. replicate k (numerical_kind_of next)) z))
    (λ e. ap (λ t. replicate n (numerical_kind_of t)) e) h.same in
    ap (λ r. replicate (n + 1) (numerical_kind_of next) ++ r) alone ∙ append-nil _
    ∙ sym (replicate_more n (numerical_kind_of next))
    ∙ ap (λ r. r ++ numerical_kind_of next ∷ []) (sym same ∙ whole)

-- a type put behind the others stands at the end of all
pub same_then-push : (n : ℕ) (first next : NumericalType) (others : List NumericalType) (ts : List ColumnType)
    → same_then n first others ≡ ts → same_then n first (others ++ next ∷ []) ≡ ts ++ numerical_kind_of next ∷ []
unfolding same_then
same_then-push n first next others ts is =
    ap (λ r. replicate n (numerical_kind_of first) ++ r) (map-push numerical_kind_of others next)
    ∙ sym (append_assoc (replicate n (numerical_kind_of first)) (map numerical_kind_of others)
    (numerical_kind_of next ∷ [])) ∙ ap (λ r. r ++ numerical_kind_of next ∷ []) is

-- the first types without the last of them
pub same_then-fewer : (n : ℕ) (first : NumericalType) (others left : List NumericalType) (ts : List ColumnType)
    (r : Option NumericalType) (b : Bool) → same_then n first others ≡ ts → others ≡ left ++ option_to_list r
    → is_some r ≡ not b → b ≡ true → (m w : ℕ) → m ≡ length others
    → MatchOption r ((m ≡ 0) × (w ≡ 0)) (λ _. w + 1 ≡ m) → 0 < length ts
    → (0 < n) × (same_then (n - 1) first left ≡ take (length ts - 1) ts)
unfolding same_then
same_then-fewer n first others left ts (Some x) b is cut e f m w many cases some = absurd (grind arith)
same_then-fewer n first [] (y ∷ left) ts None b is cut e f m w many cases some = absurd (grind arith)
same_then-fewer n first (y ∷ others) left ts None b is cut e f m w many cases some = let z = cases.0 in absurd (omega arith)
same_then-fewer zero first [] [] ts None b is cut e f m w many cases some =
    let long : length ts ≡ 0 = sym (ap length is) in absurd (omega arith)
same_then-fewer (suc n) first [] [] ts None b is cut e f m w many cases some =
    let t = numerical_kind_of first in
    let less : suc n - 1 ≡ n = omega arith in
    let one : suc n ≡ n + 1 = omega arith in
    let whole : ts ≡ replicate n t ++ t ∷ [] = sym is ∙ append-nil _ ∙ ap (λ k. replicate k t) one ∙ sym (replicate_more n t) in (
      omega arith,
      ap (λ k. replicate k t ++ []) less ∙ append-nil _ ∙ sym (before_last (replicate n t) t)
          ∙ ap (λ r. take (length r - 1) r) (sym whole),
    )

-- the others without their last are the types without their last
pub same_then-left : (n : ℕ) (first : NumericalType) (others left : List NumericalType) (ts : List ColumnType)
    (r : Option NumericalType) (b : Bool) → same_then n first others ≡ ts → others ≡ left ++ option_to_list r
    → is_some r ≡ not b → b ≡ false → same_then n first left ≡ take (length ts - 1) ts
same_then-left n first others left ts None b is cut e f = absurd (grind arith)
same_then-left n first others left ts (Some x) b is cut e f =
    let whole : ts ≡ same_then n first left ++ numerical_kind_of x ∷ [] =
    sym is ∙ ap (same_then n first) cut ∙ same_then-push n first x left (same_then n first left) refl in
    sym (before_last (same_then n first left) (numerical_kind_of x)) ∙ ap (λ r. take (length r - 1) r) (sym whole)

kind-numerical : (t : NumericalType) → is_numerical (numerical_kind_of t) ≡ true
kind-numerical I64 = refl
kind-numerical U64 = refl

others-numerical : (ts : List NumericalType) → list_all is_numerical (map numerical_kind_of ts) ≡ true
others-numerical [] = refl
others-numerical (t ∷ ts) = and_from _ _ (kind-numerical t) (others-numerical ts)

-- one type so many times, and others, are all types of numbers
pub same_then-numerical : (n : ℕ) (first : NumericalType) (others : List NumericalType)
    → list_all is_numerical (same_then n first others) ≡ true
unfolding same_then
same_then-numerical zero first others = others-numerical others
same_then-numerical (suc n) first others = and_from _ _ (kind-numerical first) (same_then-numerical n first others)

-- ---- the type at a place

first-types : {A : Type 0} (n : ℕ) (t : A) (ys : List A) (k : ℕ) → k < n → slice_get (replicate n t ++ ys) k ≡ Some t
first-types zero t ys k h = absurd (omega arith)
first-types (suc n) t ys zero h = refl
first-types (suc n) t ys (suc k) h = first-types n t ys k (omega arith)

behind-types : {A : Type 0} (n : ℕ) (t : A) (ys : List A) (k : ℕ) → n ≤ k → slice_get (replicate n t ++ ys) k ≡ slice_get ys (k - n)
behind-types zero t ys k h = let same : k ≡ k - 0 = omega arith in ap (slice_get ys) same
behind-types (suc n) t ys zero h = absurd (omega arith)
behind-types (suc n) t ys (suc k) h =
    let same : k - n ≡ suc k - suc n = omega arith in behind-types n t ys k (omega arith) ∙ ap (slice_get ys) same

-- an image stands where its item stands
pub slice_get-map : {A B : Type 0} (f : A → B) (xs : List A) (k : ℕ) (x : A) → slice_get xs k ≡ Some x → slice_get (map f xs) k ≡ Some (f x)
slice_get-map f [] k x e = absurd (not_some e)
  where
    not_some : None ≡ Some x → ⊥
    not_some e = cc
slice_get-map f (y ∷ ys) zero x e = let same : y ≡ x = cc in ap (λ r. Some (f r)) same
slice_get-map f (y ∷ ys) (suc k) x e = slice_get-map f ys k x e

-- a place below the count has the first type
pub first-place : (n : ℕ) (first : NumericalType) (others : List NumericalType) (ts : List ColumnType) (k : ℕ)
    → same_then n first others ≡ ts → k < n → slice_get ts k ≡ Some (numerical_kind_of first)
unfolding same_then
first-place n first others ts k is h =
    ap (λ r. slice_get r k) (sym is) ∙ first-types n (numerical_kind_of first) (map numerical_kind_of others) k h

pub length-same_then : (n : ℕ) (first : NumericalType) (others : List NumericalType) → length (same_then n first others) ≡ n + length others
unfolding same_then
length-same_then n first others =
    length-append (replicate n (numerical_kind_of first)) (map numerical_kind_of others)
    ∙ (λ i. length-replicate n (numerical_kind_of first) i + length-map others numerical_kind_of i)

-- a place behind the count is one of the others
pub others-within : (n : ℕ) (first : NumericalType) (others : List NumericalType) (ts : List ColumnType) (k : ℕ)
    → same_then n first others ≡ ts → n ≤ k → k < length ts → k - n < length others
others-within n first others ts k is up h = omega (arith, ap length is, length-same_then n first others)

-- a place behind the count has the type of the others there
pub others-place : (n : ℕ) (first x : NumericalType) (others : List NumericalType) (ts : List ColumnType) (k : ℕ)
    → same_then n first others ≡ ts → n ≤ k → k < length ts → x ≡ get_or others (k - n) x
    → slice_get ts k ≡ Some (numerical_kind_of x)
unfolding same_then
others-place n first x others ts k is up h e =
    ap (λ r. slice_get r k) (sym is) ∙ behind-types n (numerical_kind_of first) (map numerical_kind_of others) k up
    ∙ slice_get-map numerical_kind_of others (k - n) x
    (slice_get_read others (length others) (k - n) x refl (others-within n first others ts k is up h) e)
