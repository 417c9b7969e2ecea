-- The content of sound columns is sound.
use Rattle.std.proofs.Common.{◌≡◌, List, [], ◌∷◌, refl, sym, subst, string_bytes}
use Rattle.std.specs.Prelude.{String, IsTrue}
use Rattle.std.specs.declared.alloc.Global.{Global}
use Rattle.std.specs.declared.cmp.Ordering.{Ordering}
use Rattle.std.specs.declared.cmp.Ordering.TheVariants.{Less, Equal, Greater}
use Rattle.std.specs.FinMap.{put}
use Rattle.std.specs.FinMap.Entries.{by_order}
use Rattle.std.specs.List.{AllByRecursion}
use Rattle.std.specs.Str.{is_utf8}
use Rattle.col_model.specs.Category.{Category, Slot, slot_cmp}
use Rattle.col_model.specs.Category as categories
use Rattle.col_model.specs.Soundness.{IsSoundEntry, IsSoundContent}
use Rattle.col_model.specs.Written.{Entry, Recorded}
use Rattle.col_model.proofs.ListLaws.{all-two}
use Rattle.col_model.proofs.OrderedColumns.{slot_cmp-antisymmetric}
use Rattle.col_model.proofs.RecordedRuns.{sorted-adjacent}
use Rattle.col_writer_columns.specs.SoundEntries.{IsSoundIn}
use Rattle.col_writer.specs.Columns.{each_entry}
use Rattle.col_writer.specs.Contents.{WriterColumns, under, put_all, slotted, writer_content}
use Rattle.col_writer.specs.SoundColumns.{AreNamed}
use Rattle.col_writer.proofs.ContentLemmas.{sorted-content}

-- ---- names

-- what is left of some columns and is sound makes them all sound
unfoldable pub Leaves : {X : Type 0} → (X → Type 0) → List (String Global × X) → List (String Global × X) → Type 0
Leaves P left all = AreNamed P left → AreNamed P all

-- before the first column all are left
pub leaves-all : {X : Type 0} (P : X → Type 0) (xs all : List (String Global × X)) → xs ≡ all → Leaves P xs all
unfolding Leaves
leaves-all P xs all is h = subst (AreNamed P) is h

-- one sound column with a UTF-8 name leaves the columns behind it
pub leaves-next :
    {X : Type 0} (P : X → Type 0) (name : String Global) (x : X) (xs next all : List (String Global × X))
    → xs ≡ (name, x) ∷ next → IsTrue (is_utf8 (string_bytes name)) → P x → Leaves P xs all → Leaves P next all
unfolding Leaves
leaves-next P name x xs next all is utf8 h f rest = f (subst (AreNamed P) (sym is) ((utf8, h), rest))

-- where no column is left, all are sound
pub leaves-none : {X : Type 0} (P : X → Type 0) (xs all : List (String Global × X)) → xs ≡ [] → Leaves P xs all → AreNamed P all
unfolding Leaves
leaves-none P xs all is f = f (subst (AreNamed P) (sym is) tt)

-- ---- entries

-- entries that are sound in their category are sound under their slots
pub each-sound : {X : Type 0} (c : Category) (f : X → Entry) (P : X → Type 0) → ((x : X) → P x → IsSoundIn c (f x))
    → (es : List (String Global × X)) → AreNamed P es → AllByRecursion IsSoundEntry (under c (each_entry f es))
each-sound c f P g [] h = tt
each-sound c f P g (e ∷ es) h = (g e.1 h.0.1 (string_bytes e.0) h.0.0, each-sound c f P g es h.1)

sound-put : (s : Slot) (e : Entry) (w : Recorded) → IsSoundEntry (s, e) → AllByRecursion IsSoundEntry w
    → AllByRecursion IsSoundEntry (put slot_cmp s e w)
sound-put s e [] h all = (h, tt)
sound-put s e (p ∷ w) h all = by (slot_cmp s p.0) refl (sound-put s e w h all.1)
  where
    by : (o : Ordering) → slot_cmp s p.0 ≡ o → AllByRecursion IsSoundEntry (put slot_cmp s e w)
        → AllByRecursion IsSoundEntry (by_order o ((s, e) ∷ p ∷ w) ((p.0, e) ∷ w) (p ∷ put slot_cmp s e w))
    by Less is later = (h, all)
    by Equal is later = (subst (λ (slot : Slot). IsSoundEntry (slot, e)) (slot_cmp-antisymmetric s p.0 is) h, all.1)
    by Greater is later = (all.0, later)

sound-put_all : (es : Recorded) → AllByRecursion IsSoundEntry es → AllByRecursion IsSoundEntry (put_all es)
unfolding put_all
sound-put_all [] h = tt
sound-put_all (e ∷ es) h = sound-put e.0 e.1 (put_all es) h.0 (sound-put_all es h.1)

-- ---- the content

all-sound : (m : WriterColumns) → AllByRecursion IsSoundEntry (under categories.numerical m.numerical)
    → AllByRecursion IsSoundEntry (under categories.bytes m.bytes)
    → AllByRecursion IsSoundEntry (under categories.str m.str)
    → AllByRecursion IsSoundEntry (under categories.bool m.bool)
    → AllByRecursion IsSoundEntry (under categories.ip m.ip)
    → AllByRecursion IsSoundEntry (under categories.datetime m.datetime)
    → AllByRecursion IsSoundEntry (writer_content m)
unfolding writer_content slotted
all-sound m numerical bytes str bool ip datetime =
    sound-put_all _ (all-two IsSoundEntry _ _ numerical (all-two IsSoundEntry _ _ bytes
    (all-two IsSoundEntry _ _ str (all-two IsSoundEntry _ _ bool (all-two IsSoundEntry _ _ ip datetime)))))

-- a content whose entries are sound in each category is sound
pub content-sound : (m : WriterColumns) (now : Recorded) → writer_content m ≡ now
    → AllByRecursion IsSoundEntry (under categories.numerical m.numerical)
    → AllByRecursion IsSoundEntry (under categories.bytes m.bytes)
    → AllByRecursion IsSoundEntry (under categories.str m.str)
    → AllByRecursion IsSoundEntry (under categories.bool m.bool)
    → AllByRecursion IsSoundEntry (under categories.ip m.ip)
    → AllByRecursion IsSoundEntry (under categories.datetime m.datetime) → IsSoundContent now
content-sound m now is numerical bytes str bool ip datetime =
    subst IsSoundContent is (record {
      ascending = sorted-adjacent (writer_content m) (sorted-content m);
      entries = all-sound m numerical bytes str bool ip datetime;
    })
