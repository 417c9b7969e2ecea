-- Columns that are listed category by category.
use Rattle.std.proofs.Common.{◌≡◌, ℕ, List, [], ◌∷◌, ◌++◌, map, Bool, true, false, T, refl, sym, ◌∙◌, ap, subst, string_bytes, append_assoc, append-nil, arith, ◌<◌}
use Rattle.std.specs.Prelude.{String, bytes_eq, ⊤}
use Rattle.std.specs.declared.alloc.Global.{Global}
use Rattle.std.specs.Cmp.Lexicographic.{slice_cmp}
use Rattle.std.specs.FinMap.{find}
use Rattle.std.specs.FinMap.Entries.{is_sorted}
use Rattle.std.specs.List.{IsDistinct, AllByRecursion}
use Rattle.std.specs.Ordering.{is_eq, nat_cmp}
use Rattle.std.proofs.lemmas.Bool.Decides.{nat_tests}
use Rattle.col_model.specs.Category.{Category, category_place, Slot, slot_cmp, same_slot}
use Rattle.col_model.specs.Category as categories
use Rattle.col_model.specs.Written.{Entry, Recorded}
use Rattle.col_writer.specs.Columns.{each_entry}
use Rattle.col_writer.specs.Contents.{Named, WriterColumns, under, slotted, writer_content}
use Rattle.col_writer.specs.Listed.{IsListed}
use Rattle.col_writer.proofs.ContentLemmas.{apart, same_name, find-put_all, sorted-content}

-- ---- all columns

-- the slots are of later categories
Later : ℕ → Recorded → Type 0
Later k es = AllByRecursion (λ p. k < category_place p.0.category) es

later-under : (k : ℕ) (c : Category) (es : Named) → k < category_place c → Later k (under c es)
unfolding Later
later-under k c [] h = tt
later-under k c (e ∷ es) h = (h, later-under k c es h)

later-append : (k : ℕ) (xs ys : Recorded) → Later k xs → Later k ys → Later k (xs ++ ys)
unfolding Later
later-append k [] ys h g = g
later-append k (x ∷ xs) ys h g = (h.0, later-append k xs ys h.1 g)

apart-later : (s : Slot) (es : Recorded) → Later (category_place s.category) es
    → AllByRecursion (λ t. same_slot s t ≡ false) (map (λ p. p.0) es)
unfolding Later
apart-later s [] h = tt
apart-later s (e ∷ es) h =
    let places : is_eq (nat_cmp (category_place s.category) (category_place e.0.category)) ≡ false = grind (arith, nat_tests) in
    (apart (slice_cmp nat_cmp s.name e.0.name) _ places, apart-later s es h.1)

-- names of one category, in front of later ones
apart-names : (c : Category) (name : List ℕ) (es : Named) (rest : Recorded)
    → AllByRecursion (λ other. bytes_eq name other ≡ false) (map (λ p. string_bytes p.0) es)
    → AllByRecursion (λ t. same_slot (record { name = name; category = c }) t ≡ false) (map (λ p. p.0) rest)
    → AllByRecursion (λ t. same_slot (record { name = name; category = c }) t ≡ false)
    (map (λ p. p.0) (under c es ++ rest))
apart-names c name [] rest h g = g
apart-names c name (e ∷ es) rest h g = (same_name name (string_bytes e.0) (category_place c) ∙ h.0, apart-names c name es rest h.1 g)

-- names that differ
abbrev pub Differ : Named → Type 0
Differ es = IsDistinct bytes_eq (map (λ p. string_bytes p.0) es)

distinct-behind : (c : Category) (es : Named) (rest : Recorded) → Differ es → Later (category_place c) rest
    → IsDistinct same_slot (map (λ p. p.0) rest) → IsDistinct same_slot (map (λ p. p.0) (under c es ++ rest))
unfolding IsDistinct
distinct-behind c [] rest h later once = once
distinct-behind c (e ∷ es) rest h later once = (
  apart-names c (string_bytes e.0) es rest h.0
      (apart-later (record { name = string_bytes e.0; category = c }) rest later),
  distinct-behind c es rest h.1 later once,
)

-- the names of each category differ
pub record HaveNames (m : WriterColumns) : Type 0 where
  pub numerical : Differ m.numerical
  pub bytes : Differ m.bytes
  pub str : Differ m.str
  pub bool : Differ m.bool
  pub ip : Differ m.ip
  pub datetime : Differ m.datetime

none-once : ⊤ → IsDistinct same_slot []
unfolding IsDistinct
none-once t = t

-- columns whose names differ within each category have differing slots
pub slotted-once : (m : WriterColumns) → HaveNames m → IsDistinct same_slot (map (λ p. p.0) (slotted m))
unfolding slotted Later
slotted-once m h =
    let f = subst (λ es. IsDistinct same_slot (map (λ p. p.0) es))
    (append-nil (under categories.datetime m.datetime))
    (distinct-behind categories.datetime m.datetime [] h.datetime tt (none-once tt)) in
    let e = distinct-behind categories.ip m.ip (under categories.datetime m.datetime) h.ip
    (later-under 4 categories.datetime m.datetime (omega arith)) f in
    let d = distinct-behind categories.bool m.bool _ h.bool (later-append 3 _ _
    (later-under 3 categories.ip m.ip (omega arith))
    (later-under 3 categories.datetime m.datetime (omega arith))) e in
    let c = distinct-behind categories.str m.str _ h.str (later-append 2 _ _
    (later-under 2 categories.bool m.bool (omega arith)) (later-append 2 _ _
    (later-under 2 categories.ip m.ip (omega arith))
    (later-under 2 categories.datetime m.datetime (omega arith)))) d in
    let b = distinct-behind categories.bytes m.bytes _ h.bytes (later-append 1 _ _
    (later-under 1 categories.str m.str (omega arith)) (later-append 1 _ _
    (later-under 1 categories.bool m.bool (omega arith)) (later-append 1 _ _
    (later-under 1 categories.ip m.ip (omega arith))
    (later-under 1 categories.datetime m.datetime (omega arith))))) c in
    distinct-behind categories.numerical m.numerical _ h.numerical (later-append 0 _ _
    (later-under 0 categories.bytes m.bytes (omega arith)) (later-append 0 _ _
    (later-under 0 categories.str m.str (omega arith)) (later-append 0 _ _
    (later-under 0 categories.bool m.bool (omega arith)) (later-append 0 _ _
    (later-under 0 categories.ip m.ip (omega arith))
    (later-under 0 categories.datetime m.datetime (omega arith)))))) b

is-true : (b : Bool) → T b → b ≡ true
is-true true t = refl
is-true false t = absurd t

-- the columns of all categories are the entries of the content, in some order
pub all-listed : (m : WriterColumns) (es w : Recorded) → HaveNames m → es ≡ slotted m → writer_content m ≡ w → IsListed es w
unfolding writer_content
all-listed m es w names e is = record {
  once = subst (λ xs. IsDistinct same_slot (map (λ p. p.0) xs)) (sym e) (slotted-once m names);
  found = λ q. ap (find slot_cmp q) e ∙ sym (find-put_all q (slotted m)) ∙ ap (find slot_cmp q) is;
  sorted = ap (is_sorted slot_cmp) (sym is) ∙ is-true _ (sorted-content m);
}

-- the content is sorted
pub content-sorted : (m : WriterColumns) (es w : Recorded) → es ≡ w → writer_content m ≡ w → is_sorted slot_cmp es ≡ true
content-sorted m es w e is = ap (is_sorted slot_cmp) (e ∙ sym is) ∙ is-true _ (sorted-content m)

-- categories that were listed one behind another
pub all-slotted : (m : WriterColumns) (s t u v w x : Recorded) → s ≡ under categories.numerical m.numerical
    → t ≡ s ++ under categories.bytes m.bytes → u ≡ t ++ under categories.str m.str
    → v ≡ u ++ under categories.bool m.bool → w ≡ v ++ under categories.ip m.ip
    → x ≡ w ++ under categories.datetime m.datetime → x ≡ slotted m
unfolding slotted
all-slotted m s t u v w x p q r y z o =
    let b = under categories.bytes m.bytes in
    let c = under categories.str m.str in
    let d = under categories.bool m.bool in
    let e = under categories.ip m.ip in
    let f = under categories.datetime m.datetime in
    o ∙ ap (λ l. l ++ f) z ∙ append_assoc v e f ∙ ap (λ l. l ++ (e ++ f)) y ∙ append_assoc u d (e ++ f)
    ∙ ap (λ l. l ++ (d ++ (e ++ f))) r ∙ append_assoc t c (d ++ (e ++ f))
    ∙ ap (λ l. l ++ (c ++ (d ++ (e ++ f)))) q ∙ append_assoc s b (c ++ (d ++ (e ++ f))) ∙ ap (λ l. l ++ (b ++ (c ++ (d ++ (e ++ f))))) p

-- entries have the names of their columns
pub each-differ : {X : Type 0} (f : X → Entry) (es : List (String Global × X))
    → IsDistinct bytes_eq (map (λ p. string_bytes p.0) es) → Differ (each_entry f es)
each-differ {X = X} f es h = subst (IsDistinct bytes_eq) (same es) h
  where
    same : (es : List (String Global × X)) → map (λ p. string_bytes p.0) es ≡ map (λ p. string_bytes p.0) (each_entry f es)
    same [] = refl
    same (e ∷ es) = ap (λ r. string_bytes e.0 ∷ r) (same es)
