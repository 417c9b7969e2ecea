-- The column of a name and a type among those that are open, as it is looked for.
use Rattle.std.proofs.Common.{◌≡◌, ◌∙◌, ℕ, ◌<◌, List, [], map, length, get_or, slice_get, is_some, option_map, true, Option, Some, None, refl, sym, ap, subst}
use Rattle.std.proofs.lemmas.Bool.{eqb-true}
use Rattle.std.proofs.lemmas.Option.{slice_get-map, slice_get_read}
use Rattle.col_dynamic.specs.Dynamic.{type_of, content_of}
use Rattle.col_model.specs.ColumnType.{ColumnType, type_code}
use Rattle.col_model.specs.Keys.{Entry, FileKeys}
use Rattle.col_model.specs.Table.{Content, Column, Table}
use Rattle.col_file.specs.Handles.{entry_typed}
use Rattle.col_program.specs.Queries.{column_named}
use Rattle.col_opened.specs.Chosen.{chosen, places_from}
use Rattle.col_opened.specs.Opened.{column_of, open_in, flags_in, AreOpen}
use Rattle.col_opened.specs.declared.open_columns.OpenColumn.{OpenColumn}
use Rattle.col_opened.specs.declared.open_columns.OpenColumns.{OpenColumns}
use Rattle.col_opened.proofs.FoundLemmas.{HaveKeys, have-own, column_at, none-open, none-found, found-passes, found-at, column-typed}
use Rattle.col_opened.proofs.KeyLemmas.{one-of-keys}

-- what a place of a list holds, where a call found it in the slice of the list
pub shown-at : {A : Type 0} (shown own : List A) (n : ℕ) (x y : A) → shown ≡ own → n < length shown → x ≡ get_or shown n x → x ≡ y
    → slice_get own n ≡ Some y
shown-at shown own n x y same below there is =
    ap (λ xs. slice_get xs n) (sym same) ∙ slice_get_read shown (length shown) n x refl below there ∙ ap Some is

abbrev contents : Option Column → Option Content
contents o = option_map (λ c. c.content) o

module _ (k : FileKeys) (t : Table) (c : OpenColumns) (name : List ℕ) (kind : ColumnType) (is_open : AreOpen k t c) where
  keyed : HaveKeys t.columns (map (λ e. e.key) (chosen (flags_in c) k.entries))
  keyed = subst (HaveKeys t.columns) is_open.keys (have-own t.columns)

  -- no entry has the name and the type
  pub place-none : None ≡ entry_typed name kind k.entries → None ≡ contents (column_named name kind t.columns)
  place-none is = ap contents (sym (none-open name kind (flags_in c) k.entries t.columns keyed (none-found name kind k.entries (sym is))))

  module _ (at : ℕ) (is : slice_get k.entries at ≡ entry_typed name kind k.entries)
      (some : true ≡ is_some (entry_typed name kind k.entries)) where
    -- the column at the place of the entry
    found : column_at t.columns (slice_get c.places.items at) ≡ column_named name kind t.columns
    found = ap (λ places. column_at t.columns (slice_get places at)) is_open.places
        ∙ by (entry_typed name kind k.entries) refl some
      where
        by : (o : Option Entry) → entry_typed name kind k.entries ≡ o → true ≡ is_some o
            → column_at t.columns (slice_get (places_from 0 (flags_in c)) at) ≡ column_named name kind t.columns
        by None e some = cc
        by (Some x) e some = found-at name kind [] 0 (flags_in c) k.entries t.columns at x refl is_open.flags keyed
            (one-of-keys name kind k.entries is_open.distinct) (is ∙ e) (found-passes name kind k.entries x e)

    -- no place stands there, or none of a column
    pub place-past : slice_get c.places.items at ≡ None → None ≡ contents (column_named name kind t.columns)
    place-past none = ap contents (ap (column_at t.columns) (sym none) ∙ found)

    pub place-shut : slice_get c.places.items at ≡ Some None → None ≡ contents (column_named name kind t.columns)
    place-shut none = ap contents (ap (column_at t.columns) (sym none) ∙ found)

    module _ (n : ℕ) (there : slice_get c.places.items at ≡ Some (Some n)) where
      at-place : (o : Option OpenColumn) → slice_get (open_in c) n ≡ o → option_map column_of o ≡ column_named name kind t.columns
      at-place o e =
          ap (option_map column_of) (sym e) ∙ sym (slice_get-map column_of (open_in c) n)
          ∙ ap (λ cs. slice_get cs n) is_open.columns ∙ ap (column_at t.columns) (sym there) ∙ found

      -- no column stands there
      pub column-past : slice_get (open_in c) n ≡ None → None ≡ contents (column_named name kind t.columns)
      column-past none = ap contents (at-place None none)

      module _ (x : OpenColumn) (stands : slice_get (open_in c) n ≡ Some x) where
        -- the column that stands there
        pub column-found : Some (content_of x.column) ≡ contents (column_named name kind t.columns)
        column-found = ap contents (at-place (Some x) stands)

        -- it is of the type
        pub column-other : (type_code (type_of x.column) ≡ type_code kind → ⊥)
            → None ≡ contents (column_named name kind t.columns)
        column-other other =
            absurd (other (eqb-true _ _ (column-typed name kind t.columns (column_of x) (sym (at-place (Some x) stands)))))
