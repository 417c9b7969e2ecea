-- Slots that rise are of keys of one file.
use Rattle.std.proofs.Common.{◌≡◌, ◌∙◌, ◌&&◌, Bool, true, false, List, [], ◌∷◌, map, refl, sym, ap, subst, T}
use Rattle.std.specs.List.{AllByRecursion}
use Rattle.std.specs.Ordering.{is_lt}
use Rattle.std.specs.FinMap.Entries.{is_sorted}
use Rattle.std.proofs.lemmas.Bool.{and_parts}
use Rattle.col_common.specs.Ascending.{all_adjacent}
use Rattle.col_model.specs.Category.{Slot, slot_cmp}
use Rattle.col_model.specs.Keys.{Key, are_keys, is_name}
use Rattle.col_model.specs.Recording.{no_records}
use Rattle.col_model.specs.Sound.{key_of_column}
use Rattle.col_model.specs.Table.{Column, full}
use Rattle.col_model.specs.Written.{Recorded, Entry}
use Rattle.col_model.proofs.DistinctLaws.{rises}
use Rattle.col_model.proofs.ListLaws.{map-map}
use Rattle.col_model.proofs.RunLaws.{adjacent-sorted}
use Rattle.col_model.proofs.SlotLaws.{column_slot}
use Rattle.col_model.proofs.SoundTables.{keys-of_slots}
use Rattle.col_model.proofs.TestLaws.{both-ways}
use Rattle.col_model.proofs.WrittenSound.{sorted-slots}
use Rattle.col_model.proofs.WrittenTables.{rising-keys}
use Rattle.col_csv_import.proofs.KeyLemmas.{are_named, key_slot, rise-keys, slots_rise}

-- neighbours by their slots
adjacent-slots : (w : Recorded) → all_adjacent (λ p q. is_lt (slot_cmp p.0 q.0)) w ≡ all_adjacent slots_rise (map (λ p. p.0) w)
adjacent-slots [] = refl
adjacent-slots (p ∷ []) = refl
adjacent-slots (p ∷ q ∷ w) = ap (λ b. slots_rise p.0 q.0 && b) (adjacent-slots (q ∷ w))

-- the same, as a fact of the test
rise-entries : (w : Recorded) → all_adjacent slots_rise (map (λ p. p.0) w) ≡ true → T (is_sorted slot_cmp w)
rise-entries w e = adjacent-sorted w (adjacent-slots w ∙ e)

-- a test that holds is true
is-true : (b : Bool) → T b → b ≡ true
is-true true h = refl
is-true false h = absurd h

-- entries whose slots rise are sorted by their slots
pub rise-sorted : (w : Recorded) → all_adjacent slots_rise (map (λ p. p.0) w) ≡ true → is_sorted slot_cmp w ≡ true
rise-sorted w e = is-true (is_sorted slot_cmp w) (rise-entries w e)

-- a column with nothing in it
abbrev bare : Key → Column
bare k = record {
  name = k.name;
  column_type = k.column_type;
  content = record { cardinality = full; terms = []; rows = [] };
}

abbrev empty : Key → Slot × Entry
empty k = (key_slot k, no_records)

-- the keys of columns with nothing in them
bare-keys : (ks : List Key) → map key_of_column (map bare ks) ≡ ks
bare-keys [] = refl
bare-keys (k ∷ ks) = ap (λ ls. k ∷ ls) (bare-keys ks)

-- these have names
bare-named : (ks : List Key) → are_named ks ≡ true → AllByRecursion (λ key. is_name key.name ≡ true) (map key_of_column (map bare ks))
bare-named [] e = tt
bare-named (k ∷ ks) e = let parts = and_parts (is_name k.name) (are_named ks) e in (parts.0, bare-named ks parts.1)

-- slots that rise are of keys of one file
pub keys-rise : (ks : List Key) → are_named ks ≡ true → all_adjacent slots_rise (map key_slot ks) ≡ true → are_keys ks ≡ true
keys-rise ks named e =
    let firsts : map (λ p. p.0) (map empty ks) ≡ map key_slot ks = map-map (λ p. p.0) empty ks in
    let sorted = rise-entries (map empty ks) (ap (all_adjacent slots_rise) firsts ∙ e) in
    let rising = rising-keys (map empty ks) sorted in
    let slots : map (λ p. p.0) (map empty ks) ≡ map column_slot (map bare ks) =
    firsts ∙ sym (map-map column_slot bare ks) in
    ap are_keys (sym (bare-keys ks))
    ∙ keys-of_slots (map bare ks) (bare-named ks named) (sorted-slots (map bare ks) (subst (λ s. T (rises slot_cmp s)) slots rising))

-- both tests are one
pub keys-test : (ks : List Key) → are_named ks ≡ true → all_adjacent slots_rise (map key_slot ks) ≡ are_keys ks
keys-test ks named = both-ways _ _ (keys-rise ks named) (rise-keys ks named)
