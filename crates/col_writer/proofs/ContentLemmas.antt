-- What the content of columns has at a slot, and how one column's entry changes it.
use Rattle.std.proofs.Common.{◌≡◌, List, [], ◌∷◌, ◌++◌, true, false, cond, T, Option, Some, None, unwrap_or, refl, sym, ◌∙◌, ap, string_bytes}
use Rattle.std.specs.Prelude.{ℕ, bytes_eq, String}
use Rattle.std.specs.declared.alloc.Global.{Global}
use Rattle.std.specs.declared.cmp.Ordering.{Ordering}
use Rattle.std.specs.declared.cmp.Ordering.TheVariants.{Less, Equal, Greater}
use Rattle.std.specs.Ordering.{is_eq, nat_cmp, ordering_then, eq_by_cmp}
use Rattle.std.specs.Cmp.{tied_itself, nat_cmp_total}
use Rattle.std.specs.Cmp.Lexicographic.{slice_cmp}
use Rattle.std.specs.Map.{lookup}
use Rattle.std.specs.FinMap.{find, put, is_sorted}
use Rattle.std.specs.FinMap.Entries.{find-put, is_sorted-put, same_entries}
use Rattle.std.proofs.lemmas.Map.Text.{is_eq-slice_cmp}
use Rattle.col_model.specs.Category.{Category, category_place, Slot, slot_cmp, same_slot}
use Rattle.col_model.specs.Category as categories
use Rattle.col_model.specs.Written.{Entry, Recorded}
use Rattle.col_model.specs.Recording.{entry_of, no_records}
use Rattle.col_model.proofs.SlotLaws.{slots_total}
use Rattle.col_model.proofs.OrderedColumns.{slot_cmp-antisymmetric}
use Rattle.col_writer.specs.Contents.{Named, WriterColumns, entries_in, under, put_all, slotted, writer_content, IsNew}

-- ---- look-ups

-- the entry of a name
abbrev pub entry_at : List ℕ → Named → Option Entry
entry_at name es = lookup (λ (k : String Global). bytes_eq name (string_bytes k)) es

abbrev or_else : {A : Type 0} → Option A → Option A → Option A
or_else (Some x) o = Some x
or_else None o = o

find-append : (q : Slot) (xs ys : List (Slot × Entry)) → find slot_cmp q (xs ++ ys) ≡ or_else (find slot_cmp q xs) (find slot_cmp q ys)
find-append q [] ys = refl
find-append q (x ∷ xs) ys =
    elim (eq_by_cmp slot_cmp q x.0) as (λ b. cond b (Some x.1) (find slot_cmp q (xs ++ ys)) ≡ or_else
    (cond b (Some x.1) (find slot_cmp q xs)) (find slot_cmp q ys)) [
      | true ↦ refl
      | false ↦ find-append q xs ys
    ]

-- slots of one category are told apart by their names
pub same_name : (name other : List ℕ) (n : ℕ) → is_eq (ordering_then (slice_cmp nat_cmp name other) (nat_cmp n n)) ≡ bytes_eq name other
same_name name other n =
    ap (λ o. is_eq (ordering_then (slice_cmp nat_cmp name other) o)) (tied_itself nat_cmp_total n)
    ∙ kept (slice_cmp nat_cmp name other) ∙ is_eq-slice_cmp name other
  where
    kept : (o : Ordering) → is_eq (ordering_then o Equal) ≡ is_eq o
    kept Less = refl
    kept Equal = refl
    kept Greater = refl

-- an order whose second part isn't equal isn't equal
pub apart : (o p : Ordering) → is_eq p ≡ false → is_eq (ordering_then o p) ≡ false
apart Less p e = refl
apart Equal p e = e
apart Greater p e = refl

find-under : (q : Slot) (c : Category) (es : Named) → q.category ≡ c → find slot_cmp q (under c es) ≡ entry_at q.name es
find-under q c [] e = refl
find-under q c (p ∷ es) e =
    let place : category_place q.category ≡ category_place c = ap category_place e in
    let here : eq_by_cmp slot_cmp q (record { name = string_bytes p.0; category = c }) ≡ bytes_eq q.name (string_bytes p.0) =
    ap (λ k. is_eq (ordering_then (slice_cmp nat_cmp q.name (string_bytes p.0)) (nat_cmp k (category_place c))))
    place ∙ same_name q.name (string_bytes p.0) (category_place c) in
    ap (λ b. cond b (Some p.1) (find slot_cmp q (under c es))) here
    ∙ ap (λ o. cond (bytes_eq q.name (string_bytes p.0)) (Some p.1) o) (find-under q c es e)

find-elsewhere : (q : Slot) (c : Category) (es : Named)
    → is_eq (nat_cmp (category_place q.category) (category_place c)) ≡ false → find slot_cmp q (under c es) ≡ None
find-elsewhere q c [] e = refl
find-elsewhere q c (p ∷ es) e =
    ap (λ b. cond b (Some p.1) (find slot_cmp q (under c es)))
    (apart (slice_cmp nat_cmp q.name (string_bytes p.0)) _ e) ∙ find-elsewhere q c es e

-- entries put one by one under their slots are found as they are listed
pub find-put_all : (q : Slot) (es : List (Slot × Entry)) → find slot_cmp q (put_all es) ≡ find slot_cmp q es
unfolding put_all
find-put_all q [] = refl
find-put_all q (e ∷ es) =
    find-put slot_cmp slots_total q e.0 e.1 (put_all es)
    ∙ ap (cond (eq_by_cmp slot_cmp q e.0) (Some e.1)) (find-put_all q es)

sorted-put_all : (es : List (Slot × Entry)) → T (is_sorted slot_cmp (put_all es))
unfolding put_all
sorted-put_all [] = tt
sorted-put_all (e ∷ es) = is_sorted-put slot_cmp slots_total e.0 e.1 (put_all es) (sorted-put_all es)

-- the content of a writer is sorted by slots
pub sorted-content : (m : WriterColumns) → T (is_sorted slot_cmp (writer_content m))
unfolding writer_content
sorted-content m = sorted-put_all (slotted m)

-- six lists one behind another
six : (q : Slot) (a b c d e f : List (Slot × Entry)) → find slot_cmp q (a ++ (b ++ (c ++ (d ++ (e ++ f)))))
    ≡ or_else (find slot_cmp q a) (or_else (find slot_cmp q b) (or_else (find slot_cmp q c)
    (or_else (find slot_cmp q d) (or_else (find slot_cmp q e) (find slot_cmp q f)))))
six q a b c d e f =
    find-append q a _ ∙ ap (or_else (find slot_cmp q a)) (find-append q b _
    ∙ ap (or_else (find slot_cmp q b)) (find-append q c _ ∙ ap (or_else (find slot_cmp q c))
    (find-append q d _ ∙ ap (or_else (find slot_cmp q d)) (find-append q e f))))

or_none : {A : Type 0} (o : Option A) → or_else o None ≡ o
or_none (Some x) = refl
or_none None = refl

-- which of six lists is found, where the others have nothing
picked : (q : Slot) (m : WriterColumns) (k : Category) → q.category ≡ k →
    or_else (find slot_cmp q (under categories.numerical m.numerical))
    (or_else (find slot_cmp q (under categories.bytes m.bytes))
    (or_else (find slot_cmp q (under categories.str m.str))
    (or_else (find slot_cmp q (under categories.bool m.bool)) (or_else (find slot_cmp q (under categories.ip m.ip))
    (find slot_cmp q (under categories.datetime m.datetime))))))
    ≡ entry_at q.name (entries_in m k)
picked q m k is = by k is
  where
    here : (c : Category) (es : Named) → q.category ≡ c → find slot_cmp q (under c es) ≡ entry_at q.name es
    here c es e = find-under q c es e

    none : (c d : Category) (es : Named) → q.category ≡ c
        → is_eq (nat_cmp (category_place c) (category_place d)) ≡ false → find slot_cmp q (under d es) ≡ None
    none c d es e f = find-elsewhere q d es (ap (λ k. is_eq (nat_cmp (category_place k) (category_place d))) e ∙ f)

    by : (k : Category) → q.category ≡ k →
        or_else (find slot_cmp q (under categories.numerical m.numerical))
        (or_else (find slot_cmp q (under categories.bytes m.bytes))
        (or_else (find slot_cmp q (under categories.str m.str))
        (or_else (find slot_cmp q (under categories.bool m.bool))
        (or_else (find slot_cmp q (under categories.ip m.ip))
        (find slot_cmp q (under categories.datetime m.datetime))))))
        ≡ entry_at q.name (entries_in m k)
    by categories.numerical e =
        (λ i. or_else (here categories.numerical m.numerical e i) (or_else
        (none categories.numerical categories.bytes m.bytes e refl i) (or_else
        (none categories.numerical categories.str m.str e refl i) (or_else
        (none categories.numerical categories.bool m.bool e refl i) (or_else
        (none categories.numerical categories.ip m.ip e refl i)
        (none categories.numerical categories.datetime m.datetime e refl i)))))) ∙ or_none _
    by categories.bytes e =
        (λ i. or_else (none categories.bytes categories.numerical m.numerical e refl i) (or_else
        (here categories.bytes m.bytes e i) (or_else (none categories.bytes categories.str m.str e refl i) (or_else
        (none categories.bytes categories.bool m.bool e refl i) (or_else
        (none categories.bytes categories.ip m.ip e refl i)
        (none categories.bytes categories.datetime m.datetime e refl i)))))) ∙ or_none _
    by categories.str e =
        (λ i. or_else (none categories.str categories.numerical m.numerical e refl i) (or_else
        (none categories.str categories.bytes m.bytes e refl i) (or_else (here categories.str m.str e i) (or_else
        (none categories.str categories.bool m.bool e refl i) (or_else
        (none categories.str categories.ip m.ip e refl i)
        (none categories.str categories.datetime m.datetime e refl i)))))) ∙ or_none _
    by categories.bool e =
        (λ i. or_else (none categories.bool categories.numerical m.numerical e refl i) (or_else
        (none categories.bool categories.bytes m.bytes e refl i) (or_else
        (none categories.bool categories.str m.str e refl i) (or_else (here categories.bool m.bool e i) (or_else
        (none categories.bool categories.ip m.ip e refl i)
        (none categories.bool categories.datetime m.datetime e refl i)))))) ∙ or_none _
    by categories.ip e =
        (λ i. or_else (none categories.ip categories.numerical m.numerical e refl i) (or_else
        (none categories.ip categories.bytes m.bytes e refl i) (or_else
        (none categories.ip categories.str m.str e refl i) (or_else
        (none categories.ip categories.bool m.bool e refl i)
        (or_else (here categories.ip m.ip e i) (none categories.ip categories.datetime m.datetime e refl i))))))
        ∙ or_none _
    by categories.datetime e =
        (λ i. or_else (none categories.datetime categories.numerical m.numerical e refl i) (or_else
        (none categories.datetime categories.bytes m.bytes e refl i) (or_else
        (none categories.datetime categories.str m.str e refl i) (or_else
        (none categories.datetime categories.bool m.bool e refl i) (or_else
        (none categories.datetime categories.ip m.ip e refl i) (here categories.datetime m.datetime e i))))))

-- the content at a slot is what the columns of its category have under its name
pub find-content : (m : WriterColumns) (q : Slot) → find slot_cmp q (writer_content m) ≡ entry_at q.name (entries_in m q.category)
unfolding writer_content slotted
find-content m q =
    find-put_all q _ ∙ six q (under categories.numerical m.numerical) (under categories.bytes m.bytes)
    (under categories.str m.str) (under categories.bool m.bool) (under categories.ip m.ip)
    (under categories.datetime m.datetime) ∙ picked q m q.category refl

-- ---- one entry changes

-- the contents with the same look-ups are one
pub same_content : (m : WriterColumns) (w : Recorded) → T (is_sorted slot_cmp w)
    → ((q : Slot) → find slot_cmp q w ≡ entry_at q.name (entries_in m q.category)) → w ≡ writer_content m
same_content m w sorted at =
    same_entries slot_cmp slots_total slot_cmp-antisymmetric w (writer_content m) sorted (sorted-content m)
    (λ q. at q ∙ sym (find-content m q))

-- the columns have this entry under this slot, and else what they had
unfoldable pub Puts : Slot → Entry → WriterColumns → WriterColumns → Type 0
Puts s e m n =
    (q : Slot) → entry_at q.name (entries_in n q.category)
    ≡ cond (same_slot q s) (Some e) (entry_at q.name (entries_in m q.category))

-- then their content is the first with the entry put
pub content-put : (s : Slot) (e : Entry) (m n : WriterColumns) → Puts s e m n → writer_content n ≡ put slot_cmp s e (writer_content m)
unfolding Puts
content-put s e m n puts =
    sym (same_content n (put slot_cmp s e (writer_content m)) (is_sorted-put slot_cmp slots_total s e (writer_content m) (sorted-content m))
    (λ q. find-put slot_cmp slots_total q s e (writer_content m) ∙ ap (cond (same_slot q s) (Some e)) (find-content m q) ∙ sym (puts q)))

-- an entry that is put where it stands changes nothing
pub put-found : (s : Slot) (e : Entry) (m : WriterColumns) → entry_at s.name (entries_in m s.category) ≡ Some e
    → put slot_cmp s e (writer_content m) ≡ writer_content m
put-found s e m found =
    same_content m (put slot_cmp s e (writer_content m)) (is_sorted-put slot_cmp slots_total s e (writer_content m) (sorted-content m))
    (λ q. find-put slot_cmp slots_total q s e (writer_content m) ∙ ap (cond (same_slot q s) (Some e)) (find-content m q)
    ∙ by q (slot_cmp q s) refl)
  where
    by : (q : Slot) (o : Ordering) → slot_cmp q s ≡ o
        → cond (is_eq o) (Some e) (entry_at q.name (entries_in m q.category))
        ≡ entry_at q.name (entries_in m q.category)
    by q Less p = refl
    by q Greater p = refl
    by q Equal p = sym found ∙ ap (λ (r : Slot). entry_at r.name (entries_in m r.category)) (sym (slot_cmp-antisymmetric q s p))

-- the entry of a slot
pub entry_of-found : (s : Slot) (e : Entry) (m : WriterColumns) → entry_at s.name (entries_in m s.category) ≡ Some e
    → entry_of (writer_content m) s ≡ e
entry_of-found s e m found = ap (λ o. unwrap_or o no_records) (find-content m s ∙ found)

-- the entry of a slot that is new
pub entry_of-new : (m : WriterColumns) (c : Category) (name : List ℕ) (w : Recorded) (e : Entry) → writer_content m ≡ w
    → IsNew c name w → e ≡ no_records → entry_of (writer_content m) (record { name = name; category = c }) ≡ e
entry_of-new m c name w e is none new =
    ap (λ o. unwrap_or o no_records) (ap (find slot_cmp (record { name = name; category = c })) is ∙ none) ∙ sym new

-- no columns
abbrev pub no_columns : WriterColumns
no_columns = record { numerical = []; bytes = []; str = []; bool = []; ip = []; datetime = [] }

-- a writer without columns has no content
pub content-none : writer_content no_columns ≡ []
unfolding writer_content slotted put_all
content-none = refl
