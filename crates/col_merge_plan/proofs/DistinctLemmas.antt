-- Slots that are sorted, each once, are the distinct ones.
use Rattle.std.proofs.Common.{◌≡◌, List, [], ◌∷◌, refl, sym, ◌∙◌}
use Rattle.std.specs.Ordering.{eq_by_cmp}
use Rattle.std.specs.List.{dedup}
use Rattle.std.specs.List.Sorted.{IsPermutation, IsSorted, IsStrictlySortedBy}
use Rattle.std.specs.List.Retain.{IsFiltered, DiffersFromLast}
use Rattle.std.specs.BTreeSet.{BTreeSet}
use Rattle.std.proofs.lemmas.Cmp.{eq_by_cmp_equiv}
use Rattle.std.proofs.lemmas.Map.Lookups.{btree_set_from_contains}
use Rattle.std.proofs.lemmas.Map.Views.{list_any-from_Contains, Contains-from_any}
use Rattle.std.proofs.lemmas.List.Sorted.{list_any-IsPermutation}
use Rattle.std.proofs.lemmas.List.Kept.{IsStrictlySortedBy-dedup, Contains-dedup, Contains-from_dedup}
use Rattle.std.proofs.lemmas.List.Filters.{dedup_is}
use Rattle.col_model.specs.Category.{Slot, slot_cmp, same_slot}
use Rattle.col_model.specs.Sorted.{distinct_items}
use Rattle.col_model.proofs.SlotLaws.{slots_total}
use Rattle.col_model.proofs.OrderedColumns.{same-slots, slot_cmp-antisymmetric}
use Rattle.col_model.proofs.DistinctLaws.{has, has-distinct, sorted-with_item}
use Rattle.col_model.proofs.TestLaws.{both-ways}

sorted-distinct : (xs : List Slot) → IsStrictlySortedBy slot_cmp (distinct_items slot_cmp xs)
unfolding distinct_items IsStrictlySortedBy
sorted-distinct [] = tt
sorted-distinct (x ∷ xs) = sorted-with_item slot_cmp slots_total x (distinct_items slot_cmp xs) (sorted-distinct xs)

-- without those that come again, the same slots are there
has-dedup : (q : Slot) (xs : List Slot) → has slot_cmp q (dedup same_slot xs) ≡ has slot_cmp q xs
has-dedup q xs =
    let equal = eq_by_cmp_equiv slots_total in
    both-ways _ _
    (λ e. list_any-from_Contains equal q xs (Contains-from_dedup same_slot xs q (Contains-from_any same-slots q (dedup same_slot xs) e)))
    (λ e. list_any-from_Contains equal q (dedup same_slot xs) (Contains-dedup equal same-slots xs q (Contains-from_any same-slots q xs e)))

-- what sorting and then dropping equal neighbours leaves
pub distinct_of_sorted : (xs ys zs : List Slot) → IsPermutation xs ys → IsSorted slot_cmp ys
    → IsFiltered (DiffersFromLast same_slot) [] ys zs → zs ≡ distinct_items slot_cmp xs
distinct_of_sorted xs ys zs p s f =
    let is : zs ≡ dedup same_slot ys = dedup_is same_slot ys zs f in
    let set_of : List Slot → BTreeSet Slot = λ ks. record { keys = ks } in
    is
    ∙ btree_set_from_contains slots_total (set_of (dedup same_slot ys)) (set_of (distinct_items slot_cmp xs))
    (IsStrictlySortedBy-dedup slots_total (λ x y. refl) ys s) (sorted-distinct xs)
    (λ q. has-dedup q ys ∙ sym (list_any-IsPermutation (eq_by_cmp slot_cmp q) xs ys p) ∙ sym (has-distinct slot_cmp slots_total q xs))
    slot_cmp-antisymmetric
