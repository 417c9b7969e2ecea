-- A merge takes files alone that stand for tables.
use Rattle.std.proofs.Common.{◌≡◌, ℕ, ◌&&◌, ◌||◌, Bool, true, false, List, [], ◌∷◌, ◌++◌, map, Some, None, Ok, is_ok, refl, sym, ap, ◌∙◌, subst}
use Rattle.std.specs.Prelude.{Option, is_some, is_none, option_and_then}
use Rattle.std.specs.List.{AllByRecursion}
use Rattle.std.specs.Ordering.{eq_by_cmp, is_eq}
use Rattle.std.proofs.lemmas.Bool.{or_parts, or_right, false≢true, true≢false}
use Rattle.std.proofs.lemmas.Cmp.{tied_itself}
use Rattle.std.proofs.lemmas.List.Folds.{list_any-append}
use Rattle.col_common.specs.Reading.{◌>>=◌}
use Rattle.col_model.specs.Category.{Slot, slot_cmp}
use Rattle.col_model.specs.File.{Part, PartColumn, parts_of, whole_column, for_each, table_of_part}
use Rattle.col_model.specs.Merge.{Required, required_slot, part_slot, column_in, whole_column_in, has_bad_column, joined_column, all_slots, merged}
use Rattle.col_model.specs.Order.{Order}
use Rattle.col_model.specs.Refusal.{or_refuse, invalid_data}
use Rattle.col_model.specs.Refusal as refusals
use Rattle.col_model.specs.Table.{Column, Table}
use Rattle.col_model.specs.U64List.{joined_lists}
use Rattle.col_model.proofs.DistinctLaws.{has, has-distinct}
use Rattle.col_model.proofs.OrderedColumns.{EachIs, same-slots}
use Rattle.col_model.proofs.RefusalLaws.{bind-ok, same_Ok}
use Rattle.col_model.proofs.SlotLaws.{slots_total}
use Rattle.col_model.proofs.StackTables.{not-refused}
use Rattle.col_model.proofs.StatsLaws.{all_by, all_both}
use Rattle.col_laws.specs.SegmentFiles.{file_table, parts_in}
use Rattle.col_laws.specs.FileLaws.{MergedFilesAreWhole}
use Rattle.col_laws.proofs.KeyLemmas.{AreApart}
use Rattle.col_laws.proofs.FileKeyLemmas.{part_key, file-apart, found-own}
use Rattle.col_laws.proofs.MergeLemmas.{merged-made}
use Rattle.col_laws.proofs.MadeLemmas.{part_in, ok-value}

-- ---- a part whose columns are whole

-- the part has a column of this slot, which is outside the grammar
abbrev is_bad : Slot → Part → Bool
is_bad slot p = is_some (column_in slot p) && is_none (whole_column_in slot p)

abbrev slots_in : Part → List Slot
slots_in p = map part_slot p.columns

-- each column's slot is among the slots
slots-have : (cs : List PartColumn) → AllByRecursion (λ c. has slot_cmp (part_slot c) (map part_slot cs) ≡ true) cs
slots-have [] = tt
slots-have (c ∷ cs) = (
  ap (λ o. is_eq o || has slot_cmp (part_slot c) (map part_slot cs)) (tied_itself slots_total (part_slot c)),
  all_by (λ d e. or_right (eq_by_cmp slot_cmp (part_slot d) (part_slot c))
      (has slot_cmp (part_slot d) (map part_slot cs)) e) cs (slots-have cs),
)

columns-whole : (p : Part) → AreApart (map part_key p.columns)
    → ((q : Slot) → has slot_cmp q (slots_in p) ≡ true → is_bad q p ≡ false)
    → AllByRecursion (λ c. is_none (whole_column c) ≡ false) p.columns
columns-whole p apart good =
    all_by (λ c f. ap (λ o. is_some o && is_none (option_and_then whole_column o)) (sym f.0) ∙ good (part_slot c) f.1) p.columns
    (all_both _ _ p.columns (found-own p.columns apart) (slots-have p.columns))

table-made : (cs : List PartColumn) → AllByRecursion (λ c. is_none (whole_column c) ≡ false) cs
    → (ds : List Column) × (for_each whole_column cs ≡ Some ds)
table-made [] all = ([], refl)
table-made (c ∷ cs) all = by (whole_column c) refl all.0 (table-made cs all.1)
  where
    by : (o : Option Column) → whole_column c ≡ o → is_none o ≡ false
        → ((ds : List Column) × (for_each whole_column cs ≡ Some ds))
        → (ds : List Column) × (for_each whole_column (c ∷ cs) ≡ Some ds)
    by None e f later = absurd (true≢false f)
    by (Some d) e f later = (d ∷ later.0, rw (e, later.1) refl)

-- the part has a table
abbrev IsWhole : Part → Type 0
IsWhole p = (t : Table) × (table_of_part p ≡ Some t)

whole-part : (p : Part) → AreApart (map part_key p.columns)
    → ((q : Slot) → has slot_cmp q (slots_in p) ≡ true → is_bad q p ≡ false) → IsWhole p
whole-part p apart good =
    let ds = table-made p.columns (columns-whole p apart good) in (
      record { row_count = p.row_count; columns = ds.0 },
      ap (λ o. o >>= λ columns. Some (record { row_count = p.row_count; columns = columns })) ds.1,
    )

-- ---- parts of which no slot is bad

-- the slots of all columns
abbrev slots_of : List Part → List Slot
slots_of ps = joined_lists (map slots_in ps)

parts-whole : (ps : List Part) → AllByRecursion (λ p. AreApart (map part_key p.columns)) ps
    → ((q : Slot) → has slot_cmp q (slots_of ps) ≡ true → has_bad_column q ps ≡ false) → AllByRecursion IsWhole ps
parts-whole [] apart good = tt
parts-whole (p ∷ ps) apart good =
    let split : (q : Slot) → has slot_cmp q (slots_of (p ∷ ps)) ≡ (has slot_cmp q (slots_in p)
    || has slot_cmp q (slots_of ps)) = λ q. list_any-append (eq_by_cmp slot_cmp q) (slots_in p) (slots_of ps) in (
      whole-part p apart.0 (λ q e. (or_parts (is_bad q p) (has_bad_column q ps)
          (good q (split q ∙ ap (λ b. b || has slot_cmp q (slots_of ps)) e))).0),
      parts-whole ps apart.1 (λ q e. (or_parts (is_bad q p) (has_bad_column q ps)
          (good q (split q ∙ or_right (has slot_cmp q (slots_in p)) (has slot_cmp q (slots_of ps)) e))).1),
    )

-- ---- merges

module _ (order : Order) (picked : List (ℕ × ℕ)) (parts : List Part) (required : List Required) where
  joined-good : (q : Slot) (o : Option Column) → joined_column order picked parts required q ≡ Ok o → has_bad_column q parts ≡ false
  unfolding joined_column
  joined-good q o e = not-refused (has_bad_column q parts) invalid_data _ o e

  each-good : (slots : List Slot) (os : List (Option Column))
      → EachIs (joined_column order picked parts required) slots os → (q : Slot) → has slot_cmp q slots ≡ true
      → has_bad_column q parts ≡ false
  each-good [] os is q e = absurd (false≢true e)
  each-good (s ∷ slots) [] is q e = absurd is
  each-good (s ∷ slots) (o ∷ os) is q e = by (eq_by_cmp slot_cmp q s) refl e (each-good slots os is.1 q)
    where
      by : (b : Bool) → eq_by_cmp slot_cmp q s ≡ b → (b || has slot_cmp q slots) ≡ true
          → (has slot_cmp q slots ≡ true → has_bad_column q parts ≡ false) → has_bad_column q parts ≡ false
      by true t f later = joined-good q o (ap (joined_column order picked parts required) (same-slots q s t) ∙ is.0)
      by false t f later = later f

  -- each slot of a part is among those that are joined
  slots-all : (q : Slot) → has slot_cmp q (slots_of parts) ≡ true → has slot_cmp q (all_slots parts required) ≡ true
  slots-all q e =
      has-distinct slot_cmp slots_total q (map required_slot required ++ slots_of parts)
      ∙ list_any-append (eq_by_cmp slot_cmp q) (map required_slot required) (slots_of parts)
      ∙ or_right (has slot_cmp q (map required_slot required)) (has slot_cmp q (slots_of parts)) e

merged-good : (parts : List Part) (required : List Required) (order : Order) (t : Table)
    → merged parts required order ≡ Ok t → (q : Slot) → has slot_cmp q (slots_of parts) ≡ true
    → has_bad_column q parts ≡ false
merged-good parts required order t e q h =
    let is = merged-made parts required order t e in
    each-good order is.picked parts required (all_slots parts required) is.made is.each q
    (slots-all order is.picked parts required q h)

-- ---- files

some-part : (o : Option Part) (p : Part) → or_refuse o invalid_data ≡ Ok p → o ≡ Some p
some-part None p e = cc
some-part (Some q) p e = cc

files-apart : (files : List (List ℕ)) (ps : List Part) → parts_in files ≡ Ok ps → AllByRecursion (λ p. AreApart (map part_key p.columns)) ps
files-apart [] ps e = subst (AllByRecursion (λ p. AreApart (map part_key p.columns))) (same_Ok [] ps e) tt
files-apart (file ∷ files) ps e =
    let step = bind-ok (part_in file) (λ p. refusals.◌>>=◌ (parts_in files) (λ ps. Ok (p ∷ ps))) ps e in
    let rest = bind-ok (parts_in files) (λ ps. Ok (step.0 ∷ ps)) ps step.2 in
    subst (AllByRecursion (λ p. AreApart (map part_key p.columns))) (same_Ok (step.0 ∷ rest.0) ps rest.2)
    (file-apart file step.0 (some-part (parts_of file) step.0 step.1), files-apart files rest.0 rest.1)

files-whole : (files : List (List ℕ)) (ps : List Part) → parts_in files ≡ Ok ps → AllByRecursion IsWhole ps
    → AllByRecursion (λ file. is_ok (file_table file) ≡ true) files
files-whole [] ps e all = tt
files-whole (file ∷ files) ps e all =
    let step = bind-ok (part_in file) (λ p. refusals.◌>>=◌ (parts_in files) (λ ps. Ok (p ∷ ps))) ps e in
    let rest = bind-ok (parts_in files) (λ ps. Ok (step.0 ∷ ps)) ps step.2 in
    let own = subst (AllByRecursion IsWhole) (sym (same_Ok (step.0 ∷ rest.0) ps rest.2)) all in (
      ap (λ o. is_ok (or_refuse (o >>= table_of_part) invalid_data)) (some-part (parts_of file) step.0 step.1)
          ∙ ap (λ o. is_ok (or_refuse o invalid_data)) own.0.1,
      files-whole files rest.0 rest.1 own.1,
    )

-- where a merge of files has a table, so has each file
pub merged-files-are-whole : MergedFilesAreWhole
merged-files-are-whole files parts required order e ok =
    let t = ok-value (merged parts required order) ok in
    files-whole files parts e (parts-whole parts (files-apart files parts e) (merged-good parts required order t.0 t.1))
