-- The lines of columns.
use Rattle.std.proofs.Common.{◌≡◌, ◌∙◌, ℕ, zero, suc, ◌+◌, ◌≤◌, min, Bool, true, false, List, [], ◌∷◌, ◌++◌, map, length, sum, take, drop, replicate, decimal, codes, refl, sym, ap, ap₂, append-nil, append_assoc, arith, length-take, length-drop}
use Rattle.std.specs.List.{enumerate_from}
use Rattle.json.specs.Print.{quoted, escape_byte}
use Rattle.serde_json.specs.Data.{Data}
use Rattle.col_model.specs.Dictionary.{cut}
use Rattle.col_model.specs.Index.{Shape, empty_shape, full_shape, optional_shape, multivalued_shape}
use Rattle.col_model.specs.Limits.{cell_count}
use Rattle.col_program.specs.Report.{column_line, column_lines, row_lines, lines_text, Prints}
use Rattle.col_model.specs.ColumnType.{ColumnType, type_name}
use Rattle.col_model.specs.Table.{Cell, Column, cardinality_name}
use Rattle.col_print.specs.Puts.{SeenOut, Puts}
use Rattle.col_print.proofs.PutsLemmas.{puts_as}
use Rattle.col_model.proofs.ListLaws.{sum-cons, cell_count-cons}
use Rattle.col_column.specs.Columns.{IsCounted, rows_by}
use Rattle.col_report.specs.Printed.{PutsLines, filled_lines}
use Rattle.col_report.specs.Reported.{name_text}
use Rattle.col_index.specs.Offsets.{cardinality_in}
use Rattle.col_dynamic.specs.Dynamic.{content_of, dynamic_shape}
use Rattle.col_dynamic.specs.declared.dynamic_column.DynamicColumn.{DynamicColumn}
use Rattle.col_dynamic.specs.declared.dynamic_column.DynamicColumn.TheVariants as columns
use Rattle.col_program.proofs.ReportLaws.{Prints-then}

length-cells : {T : Type 0} (cell : T → Cell) (xs : List T) → length (map cell xs) ≡ length xs
length-cells cell [] = refl
length-cells cell (x ∷ xs) = ap suc (length-cells cell xs)

-- a list that is cut whole has as many cells as values
cut-counted : {T : Type 0} (cell : T → Cell) (ks : List ℕ) (xs : List T) → sum ks ≡ length xs
    → length xs ≡ cell_count (map (map cell) (cut ks xs))
unfolding cut
cut-counted cell [] xs e = sym e
cut-counted cell (k ∷ ks) xs e =
    let s = sum-cons k ks in
    let fits : k ≤ length xs = omega arith in
    let front : length (take k xs) ≡ k = length-take k xs ∙ (let f : min k (length xs) ≡ k = omega arith in f) in
    let rest = cut-counted cell ks (drop k xs) (let d = length-drop k xs in omega arith) in
    omega (
      arith,
      cell_count-cons (map cell (take k xs)) (map (map cell) (cut ks (drop k xs))),
      length-cells cell (take k xs),
      front,
      rest,
      length-drop k xs,
      s,
      e,
    )

sum-zeros : (m : ℕ) → sum (replicate m 0) ≡ 0
sum-zeros zero = refl
sum-zeros (suc m) = sum-cons 0 (replicate m 0) ∙ (let none : 0 + sum (replicate m 0) ≡ 0 = omega (arith, sum-zeros m) in none)

sum-ones : (m : ℕ) → sum (replicate m 1) ≡ m
sum-ones zero = refl
sum-ones (suc m) = sum-cons 1 (replicate m 1) ∙ (let more : 1 + sum (replicate m 1) ≡ suc m = omega (arith, sum-ones m) in more)

-- there are as many values as cells in their rows
pub cells-counted : {T : Type 0} (cell : T → Cell) (s : Shape) (xs : List T) → IsCounted s (length xs)
    → length xs ≡ cell_count (map (map cell) (rows_by s xs))
unfolding rows_by
cells-counted cell (empty_shape m) xs none = cut-counted cell (replicate m 0) xs (sum-zeros m ∙ sym none)
cells-counted cell full_shape xs any = cut-counted cell (replicate (length xs) 1) xs (sum-ones (length xs))
cells-counted cell (optional_shape cs) xs all = cut-counted cell cs xs all
cells-counted cell (multivalued_shape cs) xs all = cut-counted cell cs xs all

-- the line of a column alone, in a short report
pub column-short : (a b : List ℕ) (c : Column) (line : Data) (short : Bool) → short ≡ true → line ≡ column_line c
    → Prints a b (line ∷ []) → Prints a b (column_lines short c)
column-short a b c line short is same printed = rw is (rw same at printed)

-- and with its rows
pub column-long : (a b d : List ℕ) (c : Column) (line : Data) (short : Bool) → short ≡ false → line ≡ column_line c
    → Prints a b (line ∷ []) → Prints b d (filled_lines c.column_type (enumerate_from 0 c.content.rows))
    → Prints a d (column_lines short c)
unfolding filled_lines
column-long a b d c line short is same printed rows = rw is (Prints-then a b d (column_line c ∷ []) (row_lines c) (rw same at printed) rows)

-- ---- the line of a column

regroup : (n w f d : List ℕ)
    → ((n ++ 44 ∷ (w ++ 44 ∷ (f ++ 44 ∷ (d ++ 93 ∷ [])))) ++ 10 ∷ []) ++ []
    ≡ (((n ++ 44 ∷ (w ++ 44 ∷ [])) ++ f) ++ 44 ∷ []) ++ (d ++ 93 ∷ 10 ∷ [])
regroup n w f d = simp (append_assoc, append-nil)

column-text : (c : Column) → lines_text (column_line c ∷ [])
    ≡ codes "[\"column\"," ++ ((((name_text c.name c.column_type ++ quoted (cardinality_name c.content.cardinality)) ++ 44 ∷ [])
    ++ (decimal (cell_count c.content.rows) ++ 93 ∷ 10 ∷ [])))
unfolding name_text escape_byte
column-text c =
    ap (λ s. codes "[\"column\"," ++ s)
    (regroup (quoted c.name) (quoted (type_name c.column_type)) (quoted (cardinality_name c.content.cardinality))
    (decimal (cell_count c.content.rows)))

-- the cardinality of an open column is that of its shape
pub shape-cardinality : (c : DynamicColumn) → cardinality_in (dynamic_shape c) ≡ (content_of c).cardinality
shape-cardinality (columns.Bool c) = refl
shape-cardinality (columns.I64 c) = refl
shape-cardinality (columns.U64 c) = refl
shape-cardinality (columns.IpAddr c) = refl
shape-cardinality (columns.DateTime c) = refl
shape-cardinality (columns.Bytes c) = refl
shape-cardinality (columns.Str c) = refl

-- a name, a type, a cardinality and a count are the line of a column
pub column-put : (a b : SeenOut) (c : Column) (u : ColumnType) (card : List ℕ) (n : ℕ) → u ≡ c.column_type
    → card ≡ cardinality_name c.content.cardinality → n ≡ cell_count c.content.rows
    → Puts a b (((((codes "[\"column\"," ++ name_text c.name u) ++ quoted card) ++ 44 ∷ []) ++ decimal n) ++ codes "]\n")
    → PutsLines a b (column_line c ∷ [])
unfolding PutsLines
column-put a b c u card n typed carded counted put =
    let front = codes "[\"column\"," in
    let flat : ((((front ++ name_text c.name u) ++ quoted card) ++ 44 ∷ []) ++ decimal n) ++ codes "]\n"
    ≡ front ++ (((name_text c.name u ++ quoted card) ++ 44 ∷ []) ++ (decimal n ++ 93 ∷ 10 ∷ [])) = simp append_assoc in
    let same = ap₂ (λ u card. front ++ (((name_text c.name u ++ quoted card) ++ 44 ∷ []) ++ (decimal n ++ 93 ∷ 10 ∷ []))) typed carded
    ∙ ap (λ n. front ++ (((name_text c.name c.column_type ++ quoted (cardinality_name c.content.cardinality)) ++ 44 ∷ [])
    ++ (decimal n ++ 93 ∷ 10 ∷ []))) counted in
    puts_as a b _ _ (flat ∙ same ∙ sym (column-text c)) put
