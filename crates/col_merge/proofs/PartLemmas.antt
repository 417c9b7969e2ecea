-- The parts that readers tell, and their slots.
use Rattle.std.proofs.Common.{◌≡◌, ℕ, zero, suc, ◌||◌, Bool, true, List, [], ◌∷◌, ◌++◌, map, Option, Some, None, IfSome, slice_get, refl, sym, ap, ap₂, ◌∙◌, subst}
use Rattle.std.specs.List.{AllByRecursion, AllZip, list_any}
use Rattle.std.specs.Ordering.{match_ordering}
use Rattle.std.specs.declared.cmp.Ordering.{Ordering}
use Rattle.std.specs.declared.cmp.Ordering.TheVariants.{Less, Equal, Greater}
use Rattle.std.proofs.lemmas.Bool.{or_right}
use Rattle.col_common.specs.Reading.{◌>>=◌}
use Rattle.col_model.specs.Category.{Slot, slot_cmp}
use Rattle.col_model.specs.File.{Part, part_column, parts_of}
use Rattle.col_model.specs.Keys.{Entry, FileKeys, is_name, keys}
use Rattle.col_model.specs.Merge.{Required, required_slot, part_slot, all_slots, row_counts}
use Rattle.col_model.specs.Sorted.{with_item, distinct_items}
use Rattle.col_model.specs.U64List.{joined_lists}
use Rattle.col_model.proofs.DecodedNumbers.{step-of}
use Rattle.col_model.proofs.SharedTypes.{some≢none, same-some}
use Rattle.col_file.specs.Readers.{SeenReader, IsRead}
use Rattle.col_merge.specs.Parts.{told_part, told_parts}
use Rattle.col_merge_plan.specs.Slots.{entry_slot, file_slots, keys_read, counts_read, slots_by_keys}
use Rattle.col_merge.proofs.NameLemmas.{AreNamed, keys-named}

-- a part is what a reader's bytes give
pub record IsPartOf (r : SeenReader) (p : Part) : Type 0 where
  pub bytes : List ℕ
  pub told : r.file.told ≡ Some bytes
  pub read : keys bytes ≡ Some r.keys
  pub is : p ≡ record { row_count = r.keys.row_count; columns = map (part_column bytes r.keys) r.keys.entries }

-- the parts are those of the readers, one by one
abbrev pub ArePartsOf : List SeenReader → List Part → Type 0
ArePartsOf rs parts = AllZip IsPartOf rs parts

part-read : (bytes : List ℕ) (k : FileKeys) (p : Part) → keys bytes ≡ Some k → parts_of bytes ≡ Some p
    → p ≡ record { row_count = k.row_count; columns = map (part_column bytes k) k.entries }
unfolding parts_of
part-read bytes k p e h =
    let made : FileKeys → Part = λ k. record { row_count = k.row_count; columns = map (part_column bytes k) k.entries } in
    sym (same-some (made k) p (ap (λ o. o >>= λ k. Some (made k)) (sym e) ∙ h))

pub part-told : (r : SeenReader) (p : Part) → IsRead r → told_part r ≡ Some p → IsPartOf r p
part-told r p read e = by r.file.told refl read.told e
  where
    by : (o : Option (List ℕ)) → r.file.told ≡ o → IfSome o (λ bytes. keys bytes ≡ Some r.keys) → (o >>= parts_of) ≡ Some p → IsPartOf r p
    by None t k e = absurd (some≢none p (sym e))
    by (Some bytes) t k e = record { bytes = bytes; told = t; read = k; is = part-read bytes r.keys p k e }

-- parts that readers tell are what their bytes give
pub parts-told : (rs : List SeenReader) (parts : List Part) → AllByRecursion IsRead rs → told_parts rs ≡ Some parts → ArePartsOf rs parts
parts-told [] [] all e = tt
parts-told [] (p ∷ parts) all e = absurd (nil≢cons p parts (same-some [] (p ∷ parts) e))
  where
    nil≢cons : (p : Part) (parts : List Part) → [] ≡ p ∷ parts → ⊥
    nil≢cons p parts e = cc
parts-told (r ∷ rs) parts all e =
    let a = step-of (told_part r) (λ y. told_parts rs >>= λ ys. Some (y ∷ ys)) parts e in
    let b = step-of (told_parts rs) (λ ys. Some (a.x ∷ ys)) parts a.rest in
    subst (ArePartsOf (r ∷ rs)) (same-some (a.x ∷ b.x) parts b.rest) (part-told r a.x all.0 a.first, parts-told rs b.x all.1 b.first)

-- ---- row counts and slots

-- the parts have the row counts that the readers have
pub counts-told : (rs : List SeenReader) (parts : List Part) → ArePartsOf rs parts → row_counts parts ≡ counts_read rs
counts-told [] [] all = refl
counts-told [] (p ∷ parts) all = absurd all
counts-told (r ∷ rs) [] all = absurd all
counts-told (r ∷ rs) (p ∷ parts) all = ap₂ (λ n ns. n ∷ ns) (ap (λ (p : Part). p.row_count) all.0.is) (counts-told rs parts all.1)

entry-slots : (bytes : List ℕ) (k : FileKeys) (es : List Entry) → map part_slot (map (part_column bytes k) es) ≡ map entry_slot es
entry-slots bytes k [] = refl
entry-slots bytes k (e ∷ es) = ap (λ ss. entry_slot e ∷ ss) (entry-slots bytes k es)

part-slots : (r : SeenReader) (p : Part) → IsPartOf r p → map part_slot p.columns ≡ file_slots r.keys
part-slots r p h = ap (λ (p : Part). map part_slot p.columns) h.is ∙ entry-slots h.bytes r.keys r.keys.entries

joined-slots : (rs : List SeenReader) (parts : List Part) → ArePartsOf rs parts
    → joined_lists (map (λ p. map part_slot p.columns) parts) ≡ joined_lists (map file_slots (keys_read rs))
joined-slots [] [] all = refl
joined-slots [] (p ∷ parts) all = absurd all
joined-slots (r ∷ rs) [] all = absurd all
joined-slots (r ∷ rs) (p ∷ parts) all = ap₂ (λ xs ys. xs ++ ys) (part-slots r p all.0) (joined-slots rs parts all.1)

-- the slots by what the readers say are those of the parts
pub slots-told : (rs : List SeenReader) (parts : List Part) (required : List Required) → ArePartsOf rs parts
    → slots_by_keys (keys_read rs) required ≡ all_slots parts required
slots-told rs parts required all = ap (λ ss. distinct_items slot_cmp (map required_slot required ++ ss)) (sym (joined-slots rs parts all))

-- ---- names

-- each slot's name can be a name
abbrev pub AreNames : List Slot → Type 0
AreNames ss = AllByRecursion (λ (s : Slot). is_name s.name ≡ true) ss

entry-names : (es : List Entry) → AreNamed es → AreNames (map entry_slot es)
entry-names [] all = tt
entry-names (e ∷ es) all = (all.0, entry-names es all.1)

names-joined : (xs ys : List Slot) → AreNames xs → AreNames ys → AreNames (xs ++ ys)
names-joined [] ys h k = k
names-joined (x ∷ xs) ys h k = (h.0, names-joined xs ys h.1 k)

files-named : (rs : List SeenReader) (parts : List Part) → ArePartsOf rs parts → AreNames (joined_lists (map file_slots (keys_read rs)))
files-named [] [] all = tt
files-named [] (p ∷ parts) all = absurd all
files-named (r ∷ rs) [] all = absurd all
files-named (r ∷ rs) (p ∷ parts) all =
    names-joined (file_slots r.keys) (joined_lists (map file_slots (keys_read rs)))
    (entry-names r.keys.entries (keys-named all.0.bytes r.keys all.0.read)) (files-named rs parts all.1)

required-named : (required : List Required) → AllByRecursion (λ r. is_name r.name ≡ true) required → AreNames (map required_slot required)
required-named [] all = tt
required-named (r ∷ rs) all = (all.0, required-named rs all.1)

one-named : (x : Slot) (zs : List Slot) → is_name x.name ≡ true → AreNames zs → AreNames (with_item slot_cmp x zs)
one-named x [] h all = (h, tt)
one-named x (z ∷ zs) h all = go (slot_cmp x z) (one-named x zs h all.1)
  where
    go : (o : Ordering) → AreNames (with_item slot_cmp x zs)
        → AreNames (match_ordering o (x ∷ z ∷ zs) (z ∷ zs) (z ∷ with_item slot_cmp x zs))
    go Less rest = (h, all)
    go Equal rest = all
    go Greater rest = (all.0, rest)

distinct-named : (xs : List Slot) → AreNames xs → AreNames (distinct_items slot_cmp xs)
unfolding distinct_items
distinct-named [] all = tt
distinct-named (x ∷ xs) all = one-named x (distinct_items slot_cmp xs) all.0 (distinct-named xs all.1)

-- each slot has a name
pub slots-named : (rs : List SeenReader) (parts : List Part) (required : List Required) → ArePartsOf rs parts
    → AllByRecursion (λ r. is_name r.name ≡ true) required → AreNames (slots_by_keys (keys_read rs) required)
slots-named rs parts required all names =
    distinct-named (map required_slot required ++ joined_lists (map file_slots (keys_read rs))) (names-joined
    (map required_slot required) (joined_lists (map file_slots (keys_read rs))) (required-named required names)
    (files-named rs parts all))

-- ---- one part

-- a part passes a test, so some part does
pub some-part : (rs : List SeenReader) (parts : List Part) (test : Part → Bool) (at : ℕ) (r : SeenReader)
    → told_parts rs ≡ Some parts → slice_get rs at ≡ Some r → IfSome (told_part r) (λ p. test p ≡ true)
    → list_any test parts ≡ true
some-part [] parts test at r e h t = absurd (some≢none r (sym h))
some-part (x ∷ rs) parts test at r e h t =
    let a = step-of (told_part x) (λ y. told_parts rs >>= λ ys. Some (y ∷ ys)) parts e in
    let b = step-of (told_parts rs) (λ ys. Some (a.x ∷ ys)) parts a.rest in
    subst (λ parts. list_any test parts ≡ true) (same-some (a.x ∷ b.x) parts b.rest)
    (by at a.x b.x a.first b.first h (λ at e h. some-part rs b.x test at r e h t))
  where
    here : (p : Part) (ps : List Part) → told_part r ≡ Some p → list_any test (p ∷ ps) ≡ true
    here p ps f = ap (λ b. b || list_any test ps) (subst (λ o. IfSome o (λ p. test p ≡ true)) f t)

    by : (at : ℕ) (p : Part) (ps : List Part) → told_part x ≡ Some p → told_parts rs ≡ Some ps
        → slice_get (x ∷ rs) at ≡ Some r
        → ((at : ℕ) → told_parts rs ≡ Some ps → slice_get rs at ≡ Some r → list_any test ps ≡ true)
        → list_any test (p ∷ ps) ≡ true
    by zero p ps f g h later = here p ps (ap told_part (sym (same-some x r h)) ∙ f)
    by (suc at) p ps f g h later = ap (λ b. test p || b) (later at g h) ∙ or_right (test p) true refl
