-- The records of a text that has a table are the table's own.
use Rattle.std.proofs.Common.{◌≡◌, ℕ, ◌+◌, ◌<◌, ◌==◌, List, [], ◌∷◌, map, length, drop, get_or, bytes_eq, sym, ◌∙◌, ap, ap₂, arith}
use Rattle.std.specs.Prelude.{codes, decimal}
use Rattle.std.proofs.lemmas.Bool.{and_parts, eqb-true}
use Rattle.std.proofs.lemmas.List.{drop_all, drop_more, get_or_default, length-map, same_lists}
use Rattle.std.proofs.lemmas.List.FromFn.{get_or-map-range_with_len, length-map-range_with_len}
use Rattle.std.proofs.lemmas.Option.{unwrap_or-slice_get}
use Rattle.csv.specs.Reading.{default_config, records, strip_bom}
use Rattle.col_model.specs.Lookup.{row_of}
use Rattle.col_model.specs.Sound.{key_of_column}
use Rattle.col_model.specs.Table.{Column, Table}
use Rattle.col_model.proofs.ListLaws.{map-map}
use Rattle.col_model.proofs.OrderingLaws.{bytes_eq-true}
use Rattle.col_csv.specs.Csv.{field_of, records_of, row_fields, row_records}
use Rattle.col_csv.specs.CsvTable.{is_record_of, table_of_csv, TextsAreExact}
use Rattle.col_csv.proofs.FieldLemmas.{AreCellsOf, field-is}
use Rattle.col_csv.proofs.HeadingLemmas.{heading_text}
use Rattle.col_csv.proofs.ListLemmas.{numbered-at, zip-at}
use Rattle.col_csv.proofs.TableLemmas.{IsTableOf, StandFrom, has-table, stand-flat}

-- the fields of a record from a place on
fields-from : (rows : List (List (List ℕ))) (k a : ℕ) (cs : List Column) → k < length rows → StandFrom rows a cs
    → a + length cs ≡ length (get_or rows k [])
    → drop a (get_or rows k []) ≡ map (λ c. field_of c.column_type (row_of c.content k)) cs
fields-from rows k a [] h all long = drop_all a (get_or rows k []) (omega (arith, long))
fields-from rows k a (c ∷ cs) h all long =
    let fields = get_or rows k [] in
    let own = zip-at (λ fs cells. AreCellsOf c.column_type (get_or fs a []) cells) rows c.content.rows k [] [] all.0.cells h in
    let field : get_or fields a [] ≡ field_of c.column_type (row_of c.content k) =
    sym (field-is c.column_type (get_or fields a []) (get_or c.content.rows k []) own)
    ∙ ap (field_of c.column_type) (sym (unwrap_or-slice_get c.content.rows k [])) in
    drop_more fields a [] (omega (arith, long))
    ∙ ap₂ (λ (f : List ℕ) fs. f ∷ fs) field (fields-from rows k (a + 1) cs h all.1 (omega (arith, long)))

-- the record of a row
record-is : (header : List (List ℕ)) (rows : List (List (List ℕ))) (t : Table) (k : ℕ) → IsTableOf header rows t
    → k < length rows → get_or rows k [] ≡ row_fields t.columns k
record-is header rows t k is h =
    let fields = get_or rows k [] in
    let test = numbered-at (is_record_of (length header)) 0 rows k [] is.numbers h in
    let parts = and_parts (length fields == length header) (bytes_eq (get_or fields 0 []) (decimal (0 + k))) test in
    let long = eqb-true (length fields) (length header) parts.0 in
    let spelled = ap length is.header_is.spells in
    let a = length-map (map key_of_column t.columns) heading_text in
    let b = length-map t.columns key_of_column in
    let zero : 0 + k ≡ k = omega arith in
    drop_more fields 0 [] (omega (arith, long, spelled))
    ∙ ap₂ (λ (f : List ℕ) fs. f ∷ fs) (bytes_eq-true (get_or fields 0 []) (decimal (0 + k)) parts.1 ∙ ap decimal zero)
    (fields-from rows k 1 t.columns h is.columns (omega (arith, long, spelled, a, b)))

-- all records
records-are : (header : List (List ℕ)) (rows : List (List (List ℕ))) (t : Table) → IsTableOf header rows t
    → header ∷ rows ≡ records_of t.columns t.row_count
records-are header rows t is =
    let n = t.row_count in
    let count = is.row_count in
    let made = length-map-range_with_len (row_fields t.columns) 0 n in
    ap₂ (λ (f : List (List ℕ)) fs. f ∷ fs)
    (is.header_is.spells ∙ ap (λ hs. codes "#" ∷ hs) (map-map heading_text key_of_column t.columns))
    (same_lists rows (row_records t.columns n) (count ∙ sym made) (λ k d h.
    get_or_default rows k d [] h ∙ record-is header rows t k is h
    ∙ sym (get_or-map-range_with_len (row_fields t.columns) 0 n k k d (omega (arith, count, h)) (omega arith))))

-- The table of a text is flat, and the text has its records.
pub are-exact : TextsAreExact
unfolding table_of_csv
are-exact bytes t e =
    let has = has-table (records default_config (strip_bom bytes)) t e in
    record {
      flat = stand-flat has.rows 1 t.columns has.is.columns;
      same = has.are ∙ records-are has.header has.rows t has.is;
    }
