-- The columns of a file are of different slots.
use Rattle.std.proofs.Common.{◌≡◌, ℕ, true, false, cond, List, [], ◌∷◌, map, find, Some, sym, ap, ◌∙◌, subst}
use Rattle.std.specs.List.{AllByRecursion}
use Rattle.std.specs.Ordering.{is_eq}
use Rattle.std.proofs.lemmas.Bool.{and_parts}
use Rattle.std.proofs.lemmas.Cmp.{tied_itself}
use Rattle.col_common.specs.Ascending.{is_ascending}
use Rattle.col_model.specs.Category.{same_slot}
use Rattle.col_model.specs.File.{Part, PartColumn, part_column, parts_of}
use Rattle.col_model.specs.Keys.{Key, key_bytes, are_keys, Entry, FileKeys, keys}
use Rattle.col_model.specs.Merge.{part_slot}
use Rattle.col_model.proofs.DecodedNumbers.{step-of}
use Rattle.col_model.proofs.SharedTypes.{same-some}
use Rattle.col_model.proofs.SlotLaws.{slots_total}
use Rattle.col_model.proofs.StatsLaws.{all_by, all_mapped, map-map, all_both}
use Rattle.col_model.proofs.DecodedTables.{keys-are}
use Rattle.col_laws.proofs.KeyLemmas.{key_slot, names, AreApart, are-apart}

-- ---- the keys of a file

-- the key of a part's column
abbrev pub part_key : PartColumn → Key
part_key c = record { name = c.name; column_type = c.column_type }

-- The columns of a file are of different slots.
pub file-apart : (file : List ℕ) (p : Part) → parts_of file ≡ Some p → AreApart (map part_key p.columns)
unfolding parts_of
file-apart file p e =
    let made : FileKeys → Part = λ k. record { row_count = k.row_count; columns = map (part_column file k) k.entries } in
    let a = step-of (keys file) (λ k. Some (made k)) p e in
    let ks = map (λ (e : Entry). e.key) a.x.entries in
    let is : are_keys ks ≡ true = keys-are file a.x a.first in
    let parts = and_parts (is_ascending (map key_bytes ks)) (is_ascending (names ks)) is in
    subst (λ (p : Part). AreApart (map part_key p.columns)) (same-some (made a.x) p a.rest)
    (subst AreApart (sym (map-map (part_column file a.x) part_key a.x.entries)) (are-apart ks parts.0 parts.1))

-- ---- columns by their slots

-- a column of different slots is found by its own
pub found-own : (cs : List PartColumn) → AreApart (map part_key cs)
    → AllByRecursion (λ c. find (λ d. same_slot (part_slot d) (part_slot c)) cs ≡ Some c) cs
found-own [] apart = tt
found-own (c ∷ cs) apart = (
  ap (λ o. cond (is_eq o) (Some c) (find (λ d. same_slot (part_slot d) (part_slot c)) cs)) (tied_itself slots_total (part_slot c)),
  all_by (λ d p. ap (λ b. cond b (Some c) (find (λ e. same_slot (part_slot e) (part_slot d)) cs)) p.0 ∙ p.1) cs
      (all_both _ _ cs (all_mapped (λ l. same_slot (part_slot c) (key_slot l) ≡ false) part_key cs apart.0)
      (found-own cs apart.1)),
)
