-- Which of the columns are left that are taken one by one.
use Rattle.std.proofs.Common.{◌≡◌, ◌⊎◌, inl, inr, ◌∙◌, IsErrAnd, ℕ, zero, suc, ◌+◌, ◌<◌, ◌≤◌, not, Bool, true, false, if◌then◌else◌, List, [], ◌∷◌, ◌++◌, append-nil, length, drop, get_or, set, Option, None, Result, Ok, Err, refl, sym, ap, ap₂, subst, arith}
use Rattle.std.proofs.lemmas.List.{take_all, drop_all}
use Rattle.col_common.specs.Outside.{SeenSink}
use Rattle.col_common.specs.declared.error.ColumnarError.{ColumnarError}
use Rattle.col_common.specs.declared.error.ColumnarError.TheVariants.{OutOfMemory, WriteFault, TooLarge}
use Rattle.col_model.specs.ColumnType.{ColumnType}
use Rattle.col_model.specs.Limits.{is_too_large}
use Rattle.col_model.specs.Table.{Content}
use Rattle.col_merge_column.specs.Joins.{JoinsColumn}
use Rattle.col_common.proofs.OnOkLemmas.{same-error}
use Rattle.col_merge_slot.specs.Taken.{not_kept, left_after, LeavesFor, TakesKept}
use Rattle.col_merge_slot.proofs.SegmentLemmas.{next-left}

-- one more is taken
set-left : {A : Type 0} (os : List (Option A)) (flags : List Bool) (n : ℕ) (o : Option A) → n < length os
    → length flags ≡ length os → o ≡ (if get_or flags n false then None else get_or os n None)
    → set (left_after n os flags) n o ≡ left_after (suc n) os flags
set-left [] flags n o h long e = absurd (omega (arith, h))
set-left (x ∷ os) [] n o h long e = absurd (omega (arith, long))
set-left (x ∷ os) (true ∷ flags) zero o h long e = ap (λ y. y ∷ os) e
set-left (x ∷ os) (false ∷ flags) zero o h long e = ap (λ y. y ∷ os) e
set-left (x ∷ os) (flag ∷ flags) (suc n) o h long e =
    ap (λ ys. (if not flag then x else None) ∷ ys) (set-left os flags n o (omega (arith, h)) (omega (arith, long)) e)

-- the same, where those behind it are as they were
pub taken-more : {A : Type 0} (left whole : List (Option A)) (flags : List Bool) (i : ℕ) (d o : Option A)
    → i < length whole → length flags ≡ length whole → drop i left ≡ drop i whole → left ≡ left_after i whole flags
    → o ≡ (if get_or flags i false then None else get_or left i d)
    → set left i o ≡ left_after (i + 1) whole flags
taken-more left whole flags i d o h long same were is =
    let more : suc i ≡ i + 1 = omega arith in
    ap (λ os. set os i o) were
    ∙ set-left whole flags i o h long
    (is ∙ ap (λ p. if get_or flags i false then None else p) (next-left left whole i d h same))
    ∙ ap (λ n. left_after n whole flags) more

-- behind the last segment all were taken
pub taken-all : {A : Type 0} (whole : List (Option A)) (flags : List Bool) (left : List (Option A)) (n : ℕ)
    → left ≡ left_after n whole flags → length whole ≤ n → left ≡ not_kept whole flags
taken-all whole flags left n were high =
    were ∙ ap₂ (λ os more. not_kept os flags ++ more) (take_all n whole high) (drop_all n whole high)
    ∙ append-nil (not_kept whole flags)

-- a refusal that is handed on leaves what it left
pub takes-still : {A X : Type 0} (fits : A → Bool) (old : List (Option A)) (flags : List Bool) (new : List (Option A))
    (result : Result X ColumnarError) (e : ColumnarError) → IsErrAnd result (λ f. f ≡ e) → LeavesFor fits old flags new e
    → TakesKept fits old flags new result
takes-still fits old flags new (Ok x) e is leaves = absurd is
takes-still fits old flags new (Err f) e is leaves = subst (LeavesFor fits old flags new) (sym is) leaves

-- where all were taken, what is left is left by each refusal that a column may meet
leaves-all : {A : Type 0} (fits : A → Bool) (old : List (Option A)) (flags : List Bool) (new : List (Option A)) (e : ColumnarError)
    → new ≡ not_kept old flags → (e ≡ OutOfMemory) ⊎ (e ≡ WriteFault) ⊎ (e ≡ TooLarge) → LeavesFor fits old flags new e
leaves-all fits old flags new e all (inl is) = subst (LeavesFor fits old flags new) (sym is) (record {
  count = length old;
  left = all ∙ sym (taken-all old flags (left_after (length old) old flags) (length old) refl (omega arith));
})
leaves-all fits old flags new e all (inr (inl is)) = subst (LeavesFor fits old flags new) (sym is) all
leaves-all fits old flags new e all (inr (inr is)) = subst (LeavesFor fits old flags new) (sym is) all

-- where all were taken, they are so whether the column is written or not
pub takes-joined : {A : Type 0} (fits : A → Bool) (old : List (Option A)) (flags : List Bool) (new : List (Option A))
    (before after : SeenSink) (result : Result (Unit {0}) ColumnarError) (t : ColumnType) (n : ℕ) (content : Content)
    → new ≡ not_kept old flags → JoinsColumn before after result t n content → TakesKept fits old flags new result
takes-joined fits old flags new before after (Ok x) t n content all joins = all
takes-joined fits old flags new before after (Err e) t n content all joins = by (is_too_large t content) refl
  where
    by : (b : Bool) → is_too_large t content ≡ b → LeavesFor fits old flags new e
    by true large = leaves-all fits old flags new e all (elim (joins.too_large large).refused [
      | inl f ↦ inr (inr (same-error e TooLarge f))
      | inr f ↦ elim f [ inl g ↦ inl (same-error e OutOfMemory g) | inr g ↦ inr (inl (same-error e WriteFault g)) ]
    ])
    by false small = leaves-all fits old flags new e all (elim (joins.written small).causes [
      | inl f ↦ inl f
      | inr f ↦ inr (inl f)
    ])
