-- The tables of files that are made in a bracketing are those of the bracketing.
use Rattle.std.proofs.Common.{◌≡◌, ℕ, List, [], ◌∷◌, map, Result, Some, Ok, Err, is_ok, refl, sym, ap, ◌∙◌}
use Rattle.std.specs.Prelude.{IsOk}
use Rattle.col_model.specs.File.{Part, parts_of, table_of, part_of_table}
use Rattle.col_model.specs.Merge.{merged, row_counts}
use Rattle.col_model.specs.Order.{stack}
use Rattle.col_model.specs.Refusal.{Refusal, ◌>>=◌, or_refuse, each_ok, invalid_data}
use Rattle.col_model.specs.Stacking.{stacked, Bracketing, nothing, item, bracket, tables_in, stacked_by}
use Rattle.col_model.specs.Table.{Table}
use Rattle.col_model.proofs.RefusalLaws.{bind-ok, same_Ok}
use Rattle.col_laws.specs.SegmentFiles.{file_table, stacked_files, AreMade, none, of_item, of_bracket, IsMadeBy, Merges, GoesThrough, RefusesNothing}
use Rattle.col_laws.proofs.PartLemmas.{whole-part, has-table}

-- ---- answers

-- a step that gives something of an item and of others gives these of all
pub each-one : {A B : Type 0} (f : A → Result B Refusal) (x : A) (xs : List A) (y : B) (ys : List B) → f x ≡ Ok y
    → each_ok f xs ≡ Ok ys → each_ok f (x ∷ xs) ≡ Ok (y ∷ ys)
each-one f x xs y ys e g = rw (e, g) refl

-- an answer that is Ok has a value
pub ok-value : {A : Type 0} (r : Result A Refusal) → IsOk r → (x : A) × (r ≡ Ok x)
ok-value (Ok x) e = (x, refl)
ok-value (Err e) f = cc

-- ---- files of tables

-- the part of a file
abbrev pub part_in : List ℕ → Result Part Refusal
part_in file = or_refuse (parts_of file) invalid_data

-- files that have these tables, in order
abbrev pub HaveTables : List (List ℕ) → List Table → Type 0
HaveTables files ts = each_ok part_in files ≡ Ok (map part_of_table ts)

-- one more such file
pub have-one : (file : List ℕ) (files : List (List ℕ)) (t : Table) (ts : List Table) → table_of file ≡ Some t
    → HaveTables files ts → HaveTables (file ∷ files) (t ∷ ts)
have-one file files t ts e f = each-one part_in file files (part_of_table t) (map part_of_table ts) (whole-part file t e) f

-- what merging such files gives
pub stacked-tables : (files : List (List ℕ)) (ts : List Table) → HaveTables files ts → stacked_files files ≡ stacked ts
stacked-tables files ts e = ap (λ (r : Result (List Part) Refusal). r >>= λ parts. merged parts [] (stack (row_counts parts))) e

-- files by their tables
pub have-tables : (files : List (List ℕ)) (ts : List Table) → each_ok file_table files ≡ Ok ts → HaveTables files ts
have-tables [] ts e = ap (λ ts. Ok (map part_of_table ts)) (same_Ok [] ts e)
have-tables (file ∷ files) ts e =
    let step = bind-ok (file_table file) (λ t. each_ok file_table files >>= λ ts. Ok (t ∷ ts)) ts e in
    let rest = bind-ok (each_ok file_table files) (λ ts. Ok (step.0 ∷ ts)) ts step.2 in
    have-one file files step.0 rest.0 (has-table file step.0 step.1) (have-tables files rest.0 rest.1)
    ∙ ap (λ ts. Ok (map part_of_table ts)) (same_Ok (step.0 ∷ rest.0) ts rest.2)

-- ---- bracketings

module _ {A : Type 0} (table : A → Result Table Refusal) where
  items-in : (x : A) (rest : Bracketing A) (t : Table) (ts : List Table) → table x ≡ Ok t
      → tables_in table rest ≡ Ok ts → tables_in table (item x rest) ≡ Ok (t ∷ ts)
  items-in x rest t ts e g = rw (e, g) refl

  bracket-in : (inner rest : Bracketing A) (us : List Table) (t : Table) (ts : List Table)
      → tables_in table inner ≡ Ok us → stacked us ≡ Ok t → tables_in table rest ≡ Ok ts
      → tables_in table (bracket inner rest) ≡ Ok (t ∷ ts)
  bracket-in inner rest us t ts e s g =
      ap (λ r. (r >>= stacked) >>= λ t. tables_in table rest >>= λ ts. Ok (t ∷ ts)) e
      ∙ ap (λ r. r >>= λ t. tables_in table rest >>= λ ts. Ok (t ∷ ts)) s ∙ ap (λ r. r >>= λ ts. Ok (t ∷ ts)) g

  -- the tables of a bracketing, which the files have
  record AreTables (b : Bracketing A) (files : List (List ℕ)) : Type 0 where
    tables : List Table
    are : tables_in table b ≡ Ok tables
    have : HaveTables files tables

  tables-made : {b : Bracketing A} {files : List (List ℕ)} → AreMade table b files → AreTables b files
  tables-made none = record { tables = []; are = refl; have = refl }
  tables-made (of_item {x = x} {rest = rest} {file = file} {files = files} own made) =
      let later = tables-made made in
      record {
        tables = own.table ∷ later.tables;
        are = items-in x rest own.table later.tables own.is later.are;
        have = have-one file files own.table later.tables own.content later.have;
      }
  tables-made (of_bracket {inner = inner} {rest = rest} {own = own} {file = file} {files = files} inside is made) =
      let first = tables-made inside in
      let later = tables-made made in
      record {
        tables = is.table ∷ later.tables;
        are =
            bracket-in inner rest first.tables is.table later.tables first.are
            (sym (stacked-tables own first.tables first.have) ∙ is.is) later.are;
        have = have-one file files is.table later.tables is.stands.content later.have;
      }

  -- The file that is made in a bracketing has its table.
  pub made-table : (b : Bracketing A) (file : List ℕ) (made : IsMadeBy table b file) → stacked_by table b ≡ Ok made.is.table
  unfolding stacked_by
  made-table b file made =
      let own = tables-made made.made in
      ap (λ r. r >>= stacked) own.are ∙ sym (stacked-tables made.files own.tables own.have) ∙ made.is.is

  -- ---- where nothing is refused

  merges : (b : Bracketing A) (ts : List Table) (t : Table) → tables_in table b ≡ Ok ts → stacked ts ≡ Ok t → Merges table b
  merges b ts t e s files made =
      let own = tables-made made in
      ap is_ok (stacked-tables files own.tables own.have ∙ ap stacked (same_Ok own.tables ts (sym own.are ∙ e)) ∙ s)

  goes-through : (b : Bracketing A) (ts : List Table) → tables_in table b ≡ Ok ts → GoesThrough table b
  goes-through nothing ts e = tt
  goes-through (item x rest) ts e =
      let step = bind-ok (table x) (λ t. tables_in table rest >>= λ us. Ok (t ∷ us)) ts e in
      let later = bind-ok (tables_in table rest) (λ us. Ok (step.0 ∷ us)) ts step.2 in
      (ap is_ok step.1, goes-through rest later.0 later.1)
  goes-through (bracket inner rest) ts e =
      let step = bind-ok (tables_in table inner >>= stacked) (λ t. tables_in table rest >>= λ us. Ok (t ∷ us)) ts e in
      let inside = bind-ok (tables_in table inner) stacked step.0 step.1 in
      let later = bind-ok (tables_in table rest) (λ us. Ok (step.0 ∷ us)) ts step.2 in
      (goes-through inner inside.0 inside.1, merges inner inside.0 step.0 inside.1 inside.2, goes-through rest later.0 later.1)

  -- Where a bracketing has a table, no step to it refuses.
  pub refuses-nothing : (b : Bracketing A) (t : Table) → stacked_by table b ≡ Ok t → RefusesNothing table b
  unfolding stacked_by
  refuses-nothing b t e =
      let step = bind-ok (tables_in table b) stacked t e in
      record { within = goes-through b step.0 step.1; last = merges b step.0 t step.1 step.2 }
