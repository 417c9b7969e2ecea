-- Columns in the order of their slots.
use Rattle.std.proofs.Common.{◌≡◌, ◌<◌, ◌≤◌, ℕ, zero, suc, ◌+◌, List, [], ◌∷◌, length, map, get_or, false, refl, ap, ◌∙◌, arith}
use Rattle.std.specs.Ordering.{is_lt}
use Rattle.std.specs.List.Sorted.{IsSorted, IsPermutation}
use Rattle.std.proofs.lemmas.List.Sorted.{IsPermutation-map}
use Rattle.col_model.specs.Category.{Slot, slot_cmp}
use Rattle.col_model.specs.Written.{Entry}
use Rattle.col_writer_file.specs.Tables.{named_entry}
use Rattle.col_writer_file.specs.declared.named_entry.NamedEntry.{NamedEntry}
use Rattle.col_writer.specs.Listed.{AreSorted}

get_or-named : (xs : List NamedEntry) (k : ℕ) (d : Slot × Entry) (e : NamedEntry) → k < length xs
    → get_or (map named_entry xs) k d ≡ named_entry (get_or xs k e)
get_or-named [] k d e h = absurd (omega arith)
get_or-named (x ∷ xs) zero d e h = refl
get_or-named (x ∷ xs) (suc k) d e h = get_or-named xs k d e (omega arith)

length-named : (xs : List NamedEntry) → length (map named_entry xs) ≡ length xs
length-named [] = refl
length-named (x ∷ xs) = ap suc (length-named xs)

-- no column is before the one in front of it
abbrev pub AreInOrder : List NamedEntry → Type 0
AreInOrder xs =
    (k : ℕ) (d : NamedEntry) → 0 ≤ k → k + 1 < length xs
    → is_lt (slot_cmp (named_entry (get_or xs (k + 1) d)).0 (named_entry (get_or xs k d)).0) ≡ false

sorted-named : (xs : List NamedEntry) → AreInOrder xs → IsSorted (λ p q. slot_cmp p.0 q.0) (map named_entry xs)
sorted-named [] h k d low lt = absurd (omega arith)
sorted-named (x ∷ xs) h k d low lt =
    let few : k + 1 < length (x ∷ xs) = omega (arith, lt, length-named (x ∷ xs)) in
    (λ i. is_lt (slot_cmp (get_or-named (x ∷ xs) (k + 1) d x few i).0
    (get_or-named (x ∷ xs) k d x (omega (arith, few)) i).0)) ∙ h k x low few

-- columns put in their order are their entries put in the order of slots
pub columns-sorted : (xs ys : List NamedEntry) → IsPermutation xs ys → AreInOrder ys → AreSorted (map named_entry xs) (map named_entry ys)
columns-sorted xs ys p h = record { permuted = IsPermutation-map named_entry xs ys p; sorted = sorted-named ys h }
