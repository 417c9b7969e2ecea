-- The fields of a record, each in its column.
use Rattle.std.proofs.Common.{◌≡◌, ◌∙◌, ◌+◌, ◌<◌, ◌≤◌, ℕ, zero, suc, Bool, true, false, List, [], ◌∷◌, map, drop, length, get_or, Ok, Err, refl, sym, ap, ap₂, arith}
use Rattle.std.specs.Prelude.{◌&&◌}
use Rattle.std.specs.List.{list_all, zip}
use Rattle.std.specs.Result.{is_ok}
use Rattle.std.proofs.lemmas.List.{drop_more, at_drop_all, length-map}
use Rattle.std.proofs.lemmas.Slice.Zip.{length-zip, get_or-zip}
use Rattle.col_documents.specs.Documents.{Fields, both}
use Rattle.col_documents.proofs.JoinedLemmas.{joined}
use Rattle.col_load_csv.specs.Columns.{CsvColumn, column_field, column_fields}
use Rattle.col_load_csv.specs.Read.{column_read}
use Rattle.col_load_csv.specs.declared.column.Column.{Column}
use Rattle.col_load_csv.proofs.PlaceLemmas.{read_at}

-- columns, each with its field
abbrev pub pairs : List Column → List (List ℕ) → List (CsvColumn × List ℕ)
pairs columns fields = zip (map column_read columns) fields

-- the value of a field in its column
abbrev pub part : CsvColumn × List ℕ → Fields
part p = column_field p.0 p.1

-- whether it is empty or has a value
abbrev pub is_part : CsvColumn × List ℕ → Bool
is_part p = is_ok (part p)

-- the parts joined are the values of all fields
pub joined_parts : (ps : List (CsvColumn × List ℕ)) → joined (map part ps) ≡ column_fields ps
joined_parts [] = refl
joined_parts (p ∷ ps) = ap (both (part p)) (joined_parts ps)

ok-both : (a b : Fields) → is_ok (both a b) ≡ (is_ok a && is_ok b)
ok-both (Ok fs) (Ok gs) = refl
ok-both (Ok fs) (Err e) = refl
ok-both (Err e) b = refl

-- each part has a value, where all have
pub parts_ok : (ps : List (CsvColumn × List ℕ)) → is_ok (column_fields ps) ≡ list_all is_part ps
parts_ok [] = refl
parts_ok (p ∷ ps) = ok-both (part p) (column_fields ps) ∙ ap (λ b. is_part p && b) (parts_ok ps)

module _ (columns : List Column) (fields : List (List ℕ)) (wide : length fields ≡ length columns) where
  -- as many as there are columns
  pub many_pairs : length (pairs columns fields) ≡ length columns
  many_pairs =
      let long = length-map columns column_read in
      length-zip (map column_read columns) fields ∙ omega (arith, long, wide)

  -- the pair at a place
  module _ (place : ℕ) (column : Column) (field : List ℕ) (within : place < length columns) (is : column ≡ get_or columns place column)
      (is' : field ≡ get_or fields place []) where
    pub pair_at : (column_read column, field) ≡ get_or (pairs columns fields) place (column_read column, field)
    pair_at = sym (get_or-zip (map column_read columns) fields place (column_read column, field) long (omega (arith, wide, within))
        ∙ ap₂ (λ c f. (c, f)) named (read_at fields place field field (omega (arith, wide, within)) field-is))
      where
        long : place < length (map column_read columns)
        long = let same = length-map columns column_read in omega (arith, same, within)

        field-is : field ≡ get_or fields place field
        field-is = is' ∙ unsame fields place [] field (omega (arith, wide, within))
          where
            unsame : (xs : List (List ℕ)) (i : ℕ) (d e : List ℕ) → i < length xs → get_or xs i d ≡ get_or xs i e
            unsame [] i d e h = absurd (omega arith)
            unsame (x ∷ xs) zero d e h = refl
            unsame (x ∷ xs) (suc i) d e h = unsame xs i d e (omega arith)

        named : get_or (map column_read columns) place (column_read column) ≡ column_read column
        named = sym (mapped columns place within is)
          where
            mapped : (cs : List Column) (i : ℕ) → i < length cs → column ≡ get_or cs i column
                → column_read column ≡ get_or (map column_read cs) i (column_read column)
            mapped [] i h e = absurd (omega arith)
            mapped (c ∷ cs) zero h e = ap column_read e
            mapped (c ∷ cs) (suc i) h e = mapped cs i (omega arith) e

    -- what is left begins with it
    pub left_pairs : drop place (pairs columns fields) ≡ (column_read column, field) ∷ drop (place + 1) (pairs columns fields)
    left_pairs =
        drop_more (pairs columns fields) place (column_read column, field) (omega (arith, many_pairs, within))
        ∙ ap (λ p. p ∷ drop (place + 1) (pairs columns fields)) (sym pair_at)

    pub pair_within : place < length (pairs columns fields)
    pair_within = omega (arith, many_pairs, within)

    -- its value is there
    pub one_ok : list_all is_part (drop place (pairs columns fields)) ≡ is_ok (column_fields (pairs columns fields))
        → is_ok (column_field (column_read column) field) ≡ true
        → list_all is_part (drop (place + 1) (pairs columns fields)) ≡ is_ok (column_fields (pairs columns fields))
    one_ok h good =
        ap (λ b. b && list_all is_part (drop (place + 1) (pairs columns fields))) (sym good)
        ∙ ap (list_all is_part) (sym left_pairs) ∙ h

    -- its value isn't
    pub one_bad : list_all is_part (drop place (pairs columns fields)) ≡ is_ok (column_fields (pairs columns fields))
        → is_ok (column_field (column_read column) field) ≡ false → false ≡ is_ok (column_fields (pairs columns fields))
    one_bad h bad =
        ap (λ b. b && list_all is_part (drop (place + 1) (pairs columns fields))) (sym bad)
        ∙ ap (list_all is_part) (sym left_pairs) ∙ h

  -- all values are
  pub all_ok : (place : ℕ) → length columns ≤ place
      → list_all is_part (drop place (pairs columns fields)) ≡ is_ok (column_fields (pairs columns fields))
      → true ≡ is_ok (column_fields (pairs columns fields))
  all_ok place past h =
      sym (at_drop_all (list_all is_part) (pairs columns fields) place (omega (arith, many_pairs, past))) ∙ h
