-- Parts of readers without a column, and where they stand.
use Rattle.std.proofs.Common.{◌≡◌, ℕ, zero, suc, ◌+◌, ◌≤◌, ◌<◌, ◌||◌, Bool, true, false, cond, List, [], ◌∷◌, find, map, Some, None, option_map, slice_get, take, drop, refl, sym, ap, ◌∙◌, subst}
use Rattle.std.specs.List.{AllByRecursion, list_any}
use Rattle.std.proofs.lemmas.Bool.{true≢false}
use Rattle.col_model.specs.Category.{Slot, same_slot}
use Rattle.col_common.specs.Reading.{◌>>=◌}
use Rattle.col_model.specs.File.{Part, part_column, parts_of}
use Rattle.col_model.specs.Keys.{Entry, FileKeys}
use Rattle.col_model.specs.Merge.{column_in}
use Rattle.col_model.proofs.FileLaws.{parts_of-keys}
use Rattle.col_model.proofs.SharedTypes.{some≢none, same-some}
use Rattle.col_alike.proofs.GapLemmas.{LacksColumn}
use Rattle.col_alike.proofs.ShortLemmas.{all-between}
use Rattle.col_file.specs.Readers.{SeenReader}
use Rattle.col_merge.proofs.OpenLemmas.{columns-found}
use Rattle.col_merge.proofs.PartLemmas.{IsPartOf, ArePartsOf}
use Rattle.col_merge.specs.Parts.{told_part}
use Rattle.col_merge_plan.specs.Placed.{has_slot}
use Rattle.col_merge_plan.specs.Slots.{entry_slot, keys_read}

-- ---- a part and its reader

-- a part stands where its reader does
pub record PartAt (parts : List Part) (at : ℕ) (r : SeenReader) : Type 0 where
  pub p : Part
  pub is : slice_get parts at ≡ Some p
  pub of : IsPartOf r p
  pub tells : told_part r ≡ Some p

part-tells : (r : SeenReader) (p : Part) → IsPartOf r p → told_part r ≡ Some p
part-tells r p of =
    ap (λ o. o >>= parts_of) of.told ∙ parts_of-keys of.bytes r.keys of.read ∙ ap Some (sym of.is)

pub part-at : (rs : List SeenReader) (parts : List Part) (at : ℕ) (r : SeenReader) → ArePartsOf rs parts
    → slice_get rs at ≡ Some r → PartAt parts at r
part-at [] parts at r all e = absurd (some≢none r (sym e))
part-at (x ∷ rs) [] at r all e = absurd all
part-at (x ∷ rs) (p ∷ parts) zero r all e =
    let own = subst (λ r. IsPartOf r p) (same-some x r e) all.0 in record { p = p; is = refl; of = own; tells = part-tells r p own }
part-at (x ∷ rs) (p ∷ parts) (suc at) r all e =
    let h = part-at rs parts at r all.1 e in record { p = h.p; is = h.is; of = h.of; tells = h.tells }

-- a reader stands where its part does
record ReaderAt (rs : List SeenReader) (at : ℕ) (p : Part) : Type 0 where
  r : SeenReader
  is : slice_get (keys_read rs) at ≡ Some r.keys
  of : IsPartOf r p

reader-at : (rs : List SeenReader) (parts : List Part) (at : ℕ) (p : Part) → ArePartsOf rs parts
    → slice_get parts at ≡ Some p → ReaderAt rs at p
reader-at rs [] at p all e = absurd (some≢none p (sym e))
reader-at [] (q ∷ parts) at p all e = absurd all
reader-at (r ∷ rs) (q ∷ parts) zero p all e = record { r = r; is = refl; of = subst (IsPartOf r) (same-some q p e) all.0 }
reader-at (r ∷ rs) (q ∷ parts) (suc at) p all e =
    let h = reader-at rs parts at p all.1 e in record { r = h.r; is = h.is; of = h.of }

-- ---- parts that lack a column

none-found : (slot : Slot) (es : List Entry) → list_any (λ s. same_slot s slot) (map entry_slot es) ≡ false
    → find (λ e. same_slot (entry_slot e) slot) es ≡ None
none-found slot [] h = refl
none-found slot (e ∷ es) h = by (same_slot (entry_slot e) slot) h (none-found slot es)
  where
    by : (b : Bool) → (b || list_any (λ s. same_slot s slot) (map entry_slot es)) ≡ false
        → (list_any (λ s. same_slot s slot) (map entry_slot es) ≡ false
        → find (λ e. same_slot (entry_slot e) slot) es ≡ None)
        → cond b (Some e) (find (λ e. same_slot (entry_slot e) slot) es) ≡ None
    by true h later = absurd (true≢false h)
    by false h later = later h

-- the part of a file without the slot lacks the column
part-lacks : (slot : Slot) (r : SeenReader) (p : Part) → IsPartOf r p → has_slot slot r.keys ≡ false → LacksColumn slot p
part-lacks slot r p of h =
    ap (column_in slot) of.is
    ∙ columns-found of.bytes r.keys slot r.keys.entries
    ∙ ap (option_map (part_column of.bytes r.keys)) (none-found slot r.keys.entries h)

-- the parts of neighbours without the slot lack the column
pub parts-lack : (slot : Slot) (rs : List SeenReader) (parts : List Part) (a k : ℕ) → ArePartsOf rs parts
    → ((i : ℕ) (f : FileKeys) → slice_get (keys_read rs) i ≡ Some f → a ≤ i → i < a + k → has_slot slot f ≡ false)
    → AllByRecursion (LacksColumn slot) (take k (drop a parts))
parts-lack slot rs parts a k all none =
    all-between (LacksColumn slot) parts a k (λ i p past less e. by i p past less (reader-at rs parts i p all e))
  where
    by : (i : ℕ) (p : Part) → a ≤ i → i < a + k → ReaderAt rs i p → LacksColumn slot p
    by i p past less at = part-lacks slot at.r p at.of (none i at.r.keys at.is past less)
