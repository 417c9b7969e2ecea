-- Entries that are listed in some order, and then sorted.
use Rattle.std.proofs.Common.{◌≡◌, ◌<◌, ℕ, zero, suc, ◌+◌, [], ◌∷◌, length, get_or, Bool, true, false, cond, T, Option, Some, None, refl, sym, ◌∙◌, ap, subst, arith}
use Rattle.std.specs.Prelude.{◌||◌, slice_get}
use Rattle.std.specs.declared.cmp.Ordering.{Ordering}
use Rattle.std.specs.declared.cmp.Ordering.TheVariants.{Less, Equal, Greater}
use Rattle.std.specs.Ordering.{is_lt, is_eq, ordering_reverse}
use Rattle.std.specs.Cmp.{IsEquivalence}
use Rattle.std.specs.FinMap.{find}
use Rattle.std.specs.FinMap.Entries.{same_entries}
use Rattle.std.specs.List.{IsDistinct, Contains, list_any}
use Rattle.std.specs.List.Sorted.{IsPermutation}
use Rattle.std.specs.Map.{lookup, keys_of}
use Rattle.std.proofs.lemmas.Bool.{and_from}
use Rattle.std.proofs.lemmas.Cmp.{eq_by_cmp_equiv}
use Rattle.std.proofs.lemmas.Option.{slice_get-get_or, slice_get_within, get_or_from_slice_get}
use Rattle.std.proofs.lemmas.List.Sorted.{Contains-permutation, IsPermutation-map, list_any-IsPermutation}
use Rattle.std.proofs.lemmas.Map.Entries.{place_from_lookup, lookup_from_place}
use Rattle.std.proofs.lemmas.Map.Keys.{IsDistinct-IsPermutation, apart_from_distinct}
use Rattle.col_common.specs.Ascending.{all_adjacent}
use Rattle.col_model.specs.Category.{Slot, slot_cmp, same_slot}
use Rattle.col_model.specs.Written.{Entry, Recorded}
use Rattle.col_model.proofs.SlotLaws.{slots_total}
use Rattle.col_model.proofs.OrderedColumns.{slot_cmp-antisymmetric, same-slots}
use Rattle.col_model.proofs.RunLaws.{adjacent-sorted}
use Rattle.col_writer.specs.Listed.{IsListed, AreSorted}

-- a look-up by slot
find-lookup : (q : Slot) (es : Recorded) → find slot_cmp q es ≡ lookup (same_slot q) es
find-lookup q [] = refl
find-lookup q (e ∷ es) = ap (cond (same_slot q e.0) (Some e.1)) (find-lookup q es)

none-any : (q : Slot) (es : Recorded) → lookup (same_slot q) es ≡ None → list_any (λ e. same_slot q e.0) es ≡ false
none-any q [] h = refl
none-any q (e ∷ es) h = by (same_slot q e.0) h (none-any q es)
  where
    by : (b : Bool) → cond b (Some e.1) (lookup (same_slot q) es) ≡ None
        → (lookup (same_slot q) es ≡ None → list_any (λ e. same_slot q e.0) es ≡ false)
        → (b || list_any (λ e. same_slot q e.0) es) ≡ false
    by true h later = absurd (cc)
    by false h later = later h

any-none : (q : Slot) (es : Recorded) → list_any (λ e. same_slot q e.0) es ≡ false → lookup (same_slot q) es ≡ None
any-none q [] h = refl
any-none q (e ∷ es) h = by (same_slot q e.0) h (any-none q es)
  where
    by : (b : Bool) → (b || list_any (λ e. same_slot q e.0) es) ≡ false
        → (list_any (λ e. same_slot q e.0) es ≡ false → lookup (same_slot q) es ≡ None)
        → cond b (Some e.1) (lookup (same_slot q) es) ≡ None
    by true h later = absurd (cc)
    by false h later = later h

slots-alike : IsEquivalence same_slot
slots-alike = eq_by_cmp_equiv slots_total

-- a permutation keeps what a slot has
lookup-permuted : (es fs : Recorded) (q : Slot) → IsPermutation es fs → IsDistinct same_slot (keys_of es)
    → lookup (same_slot q) fs ≡ lookup (same_slot q) es
lookup-permuted es fs q p once = by (lookup (same_slot q) es) refl
  where
    by : (o : Option Entry) → lookup (same_slot q) es ≡ o → lookup (same_slot q) fs ≡ o
    by None h = any-none q fs (sym (list_any-IsPermutation (λ e. same_slot q e.0) es fs p) ∙ none-any q es h)
    by (Some v) h =
        let place = place_from_lookup (same_slot q) es v h in
        let k : Slot = place.1 in
        let same : q ≡ k = same-slots q k place.3 in
        let c : Contains fs (k, v) = Contains-permutation es fs (k, v) p (
          place.0,
          slice_get_within es place.0 (k, v) place.2,
          get_or_from_slice_get es place.0 (k, v) (k, v) place.2,
        ) in
        let at : slice_get fs c.0 ≡ Some (k, v) = slice_get-get_or fs c.0 (k, v) c.1 ∙ ap Some c.2 in
        ap (λ s. lookup (same_slot s) fs) same
        ∙ lookup_from_place slots-alike fs c.0 k v (IsDistinct-IsPermutation same_slot slots-alike.symm
        (keys_of es) (keys_of fs) (IsPermutation-map (λ (e : Slot × Entry). e.0) es fs p) once) at

-- sorted slots that differ rise
rising : (fs : Recorded) → ((k m : ℕ) (d : Slot × Entry) → m ≡ k + 1 → m < length fs
    → is_lt (slot_cmp (get_or fs k d).0 (get_or fs m d).0) ≡ true)
    → all_adjacent (λ p q. is_lt (slot_cmp p.0 q.0)) fs ≡ true
rising [] h = refl
rising (p ∷ []) h = refl
rising (p ∷ q ∷ fs) h =
    and_from _ _ (h 0 1 p refl (omega arith))
    (rising (q ∷ fs) (λ k m d e lt. h (suc k) (suc m) d (omega arith) (omega arith)))

strict : (a b : Slot) → is_lt (slot_cmp b a) ≡ false → same_slot a b ≡ false → is_lt (slot_cmp a b) ≡ true
strict a b below apart = by (slot_cmp a b) (slot_cmp b a) (slots_total.antisymm b a) below apart
  where
    by : (o p : Ordering) → p ≡ ordering_reverse o → is_lt p ≡ false → is_eq o ≡ false → is_lt o ≡ true
    by Less p e below apart = refl
    by Equal p e below apart = absurd (cc)
    by Greater p e below apart = absurd (let no : is_lt p ≡ true = ap is_lt e in cc)

get-keys : (fs : Recorded) (k : ℕ) (d : Slot × Entry) → get_or (keys_of fs) k d.0 ≡ (get_or fs k d).0
get-keys [] zero d = refl
get-keys [] (suc k) d = refl
get-keys (f ∷ fs) zero d = refl
get-keys (f ∷ fs) (suc k) d = get-keys fs k d

length-keys : (fs : Recorded) → length (keys_of fs) ≡ length fs
length-keys [] = refl
length-keys (f ∷ fs) = ap suc (length-keys fs)

-- slots that are listed once differ from their neighbours
apart-keys : (fs : Recorded) (k m : ℕ) (d : Slot × Entry) → IsDistinct same_slot (keys_of fs) → k < m
    → m < length fs → same_slot (get_or fs k d).0 (get_or fs m d).0 ≡ false
apart-keys fs k m d once less lt =
    (λ i. same_slot (sym (get-keys fs k d) i) (sym (get-keys fs m d) i))
    ∙ apart_from_distinct same_slot (keys_of fs) k m d.0 once less (omega (arith, length-keys fs, lt))

-- a list in the order of its slots is the content
pub sorted-is : (es fs w : Recorded) → IsListed es w → AreSorted es fs → fs ≡ w
sorted-is es fs w h s =
    let distinct = IsDistinct-IsPermutation same_slot slots-alike.symm (keys_of es) (keys_of fs)
    (IsPermutation-map (λ (e : Slot × Entry). e.0) es fs s.permuted) h.once in
    same_entries slot_cmp slots_total slot_cmp-antisymmetric fs w
    (adjacent-sorted fs (rising fs (λ k m d e lt. strict (get_or fs k d).0 (get_or fs m d).0 (subst
    (λ n. is_lt (slot_cmp (get_or fs n d).0 (get_or fs k d).0) ≡ false) (sym e)
    (s.sorted k d (omega arith) (omega arith))) (apart-keys fs k m d distinct (omega arith) lt))))
    (subst T (sym h.sorted) tt) (λ q. find-lookup q fs ∙ lookup-permuted es fs q s.permuted h.once ∙ sym (find-lookup q es) ∙ h.found q)
