-- The column that documents are sorted by.
use Rattle.std.proofs.Common.{◌≡◌, List, [], Bool, Option, Some, None, Result, Ok, refl, sym, ◌∙◌, ap, subst}
use Rattle.std.specs.Prelude.{ℕ, option_map}
use Rattle.std.specs.Option.{option_or}
use Rattle.col_common.specs.declared.error.ColumnarError.{ColumnarError}
use Rattle.col_model.specs.Category.{Category, Slot, slot_cmp}
use Rattle.col_model.specs.Category as categories
use Rattle.col_model.specs.Written.{Entry, Recorded}
use Rattle.col_model.specs.SortOrder.{entry_in, sorting_categories, sort_order}
use Rattle.col_writer_columns.specs.Answers.{Gives}
use Rattle.col_writer_columns.specs.Sorting.{sorted_docs}
use Rattle.col_writer.specs.Contents.{WriterColumns, writer_content}
use Rattle.col_writer.proofs.ContentLemmas.{entry_at, find-content}

-- the order by the first entry of a name
order-found : (w : Recorded) (name : List ℕ) (n : ℕ) (reversed : Bool) (s : Slot) (e : Entry)
    → entry_in w name sorting_categories ≡ Some (s, e)
    → sort_order w name n reversed ≡ sorted_docs e.records n reversed
unfolding sort_order
order-found w name n reversed s e at = rw at refl

order-none : (w : Recorded) (name : List ℕ) (n : ℕ) (reversed : Bool) → entry_in w name sorting_categories ≡ None
    → sort_order w name n reversed ≡ Ok []
unfolding sort_order
order-none w name n reversed at = rw at refl

-- what is found of a name in one category
found : List ℕ → Category → Option Entry → Option (Slot × Entry)
found name c o = option_map (λ e. (record { name = name; category = c }, e)) o

four : (m : WriterColumns) (name : List ℕ) (a b c d : Option Entry) → entry_at name m.numerical ≡ a
    → entry_at name m.datetime ≡ b → entry_at name m.str ≡ c → entry_at name m.bytes ≡ d →
    entry_in (writer_content m) name sorting_categories
    ≡ option_or (found name categories.numerical a) (option_or (found name categories.datetime b)
    (option_or (found name categories.str c) (option_or (found name categories.bytes d) None)))
unfolding found
four m name a b c d p q r s =
    λ i. option_or (found name categories.numerical ((find-content m (record { name = name; category = categories.numerical }) ∙ p) i))
    (option_or (found name categories.datetime ((find-content m (record { name = name; category = categories.datetime }) ∙ q) i))
    (option_or (found name categories.str ((find-content m (record { name = name; category = categories.str }) ∙ r) i))
    (option_or (found name categories.bytes ((find-content m (record { name = name; category = categories.bytes }) ∙ s) i)) None)))

-- what is given of an entry is given of the content
given : {V : Type 0} (view : V → List ℕ) (result : Result V ColumnarError) (m : WriterColumns) (now : Recorded)
    (name : List ℕ) (n : ℕ) (reversed : Bool) (s : Slot) (e : Entry) → writer_content m ≡ now
    → entry_in (writer_content m) name sorting_categories ≡ Some (s, e)
    → Gives view result (sorted_docs e.records n reversed) → Gives view result (sort_order now name n reversed)
given view result m now name n reversed s e is at g =
    subst (λ w. Gives view result (sort_order w name n reversed)) is
    (subst (Gives view result) (sym (order-found (writer_content m) name n reversed s e at)) g)

-- documents are sorted by the numbers under the name, where there are some
pub by-numerical : {V : Type 0} (view : V → List ℕ) (result : Result V ColumnarError) (m : WriterColumns) (now : Recorded)
    (name : List ℕ) (n : ℕ) (reversed : Bool) (e : Entry) → writer_content m ≡ now → entry_at name m.numerical ≡ Some e
    → Gives view result (sorted_docs e.records n reversed) → Gives view result (sort_order now name n reversed)
unfolding found
by-numerical view result m now name n reversed e is at g =
    given view result m now name n reversed _ e is (four m name _ _ _ _ at refl refl refl) g

-- without numbers documents are sorted by the points in time under the name
pub by-datetime : {V : Type 0} (view : V → List ℕ) (result : Result V ColumnarError) (m : WriterColumns) (now : Recorded)
    (name : List ℕ) (n : ℕ) (reversed : Bool) (e : Entry) → writer_content m ≡ now → entry_at name m.numerical ≡ None
    → entry_at name m.datetime ≡ Some e → Gives view result (sorted_docs e.records n reversed)
    → Gives view result (sort_order now name n reversed)
unfolding found
by-datetime view result m now name n reversed e is absent at g =
    given view result m now name n reversed _ e is (four m name _ _ _ _ absent at refl refl) g

-- without numbers and points in time documents are sorted by the texts under the name
pub by-str : {V : Type 0} (view : V → List ℕ) (result : Result V ColumnarError) (m : WriterColumns) (now : Recorded)
    (name : List ℕ) (n : ℕ) (reversed : Bool) (e : Entry) → writer_content m ≡ now → entry_at name m.numerical ≡ None
    → entry_at name m.datetime ≡ None → entry_at name m.str ≡ Some e
    → Gives view result (sorted_docs e.records n reversed) → Gives view result (sort_order now name n reversed)
unfolding found
by-str view result m now name n reversed e is absent none at g =
    given view result m now name n reversed _ e is (four m name _ _ _ _ absent none at refl) g

-- without numbers, points in time and texts documents are sorted by the byte strings under the name
pub by-bytes : {V : Type 0} (view : V → List ℕ) (result : Result V ColumnarError) (m : WriterColumns) (now : Recorded)
    (name : List ℕ) (n : ℕ) (reversed : Bool) (e : Entry) → writer_content m ≡ now → entry_at name m.numerical ≡ None
    → entry_at name m.datetime ≡ None → entry_at name m.str ≡ None → entry_at name m.bytes ≡ Some e
    → Gives view result (sorted_docs e.records n reversed) → Gives view result (sort_order now name n reversed)
unfolding found
by-bytes view result m now name n reversed e is absent none nor at g =
    given view result m now name n reversed _ e is (four m name _ _ _ _ absent none nor at) g

-- a name without a column to sort by gives no order
pub by-none : {V : Type 0} (view : V → List ℕ) (v : V) (m : WriterColumns) (now : Recorded) (name : List ℕ) (n : ℕ)
    (reversed : Bool) → writer_content m ≡ now → entry_at name m.numerical ≡ None → entry_at name m.datetime ≡ None
    → entry_at name m.str ≡ None → entry_at name m.bytes ≡ None → view v ≡ []
    → Gives view (Ok v) (sort_order now name n reversed)
unfolding found
by-none view v m now name n reversed is absent none nor neither empty =
    record {
      ok = ap (λ w. sort_order w name n reversed) (sym is)
          ∙ order-none (writer_content m) name n reversed (four m name _ _ _ _ absent none nor neither)
          ∙ ap Ok (sym empty);
      refused = tt;
    }
