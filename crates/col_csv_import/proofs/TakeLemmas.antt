-- Rows that are taken one after another.
use Rattle.std.proofs.Common.{◌≡◌, ◌≢◌, ◌∙◌, ◌<◌, ◌≤◌, ◌+◌, ◌-◌, ◌^◌, ◌&&◌, ℕ, Bool, true, cond, List, [], ◌∷◌, length, get_or, bytes_eq, decimal, Some, None, IfSome, Err, refl, sym, ap, subst, arith}
use Rattle.std.specs.List.{AllByRecursion}
use Rattle.std.proofs.lemmas.Bool.{eq-eqb, ne_eqb}
use Rattle.std.proofs.lemmas.Option.{same_Some}
use Rattle.csv.specs.Reading.{expected_len}
use Rattle.col_common.specs.Reading.{◌>>=◌}
use Rattle.col_csv.specs.declared.csv_error.CsvError.{CsvError}
use Rattle.col_csv.specs.declared.csv_error.CsvError.TheVariants.{OutOfMemory, BadCsv}
use Rattle.col_csv_import.specs.Columns.{FilledColumn, HasRoom}
use Rattle.col_csv_import.specs.Made.{IsRefused}
use Rattle.col_csv_import.specs.Readers.{IsReading, IsUneven, ReadsRecord, TextReader, TookFields, left_of}
use Rattle.col_csv_import.specs.Rows.{with_fields, with_row, with_rows}

-- ---- one row

-- the first field is the number of the row
pub row-numbered : (d : ℕ) (fields : List (List ℕ)) (cs : List FilledColumn) (b : Bool)
    → b ≡ bytes_eq (get_or fields 0 []) (decimal d) → b ≡ true → with_row (length fields) d fields cs ≡ with_fields d fields 1 cs
row-numbered d fields cs b is e =
    ap (λ a. cond (a && bytes_eq (get_or fields 0 []) (decimal d)) (with_fields d fields 1 cs) None)
    (eq-eqb (length fields) (length fields) refl)
    ∙ ap (λ a. cond a (with_fields d fields 1 cs) None) (sym is ∙ e)

-- a field of such a row is refused
pub row-refused : (d : ℕ) (fields : List (List ℕ)) (cs : List FilledColumn) (b : Bool) (e : CsvError)
    → b ≡ bytes_eq (get_or fields 0 []) (decimal d) → b ≡ true
    → IsRefused e (with_fields d fields 1 cs) → IsRefused e (with_row (length fields) d fields cs)
row-refused d fields cs b OutOfMemory is e m = tt
row-refused d fields cs b BadCsv is e m = row-numbered d fields cs b is e ∙ m
row-refused d fields cs b _ is e m = absurd m

-- a record of another number of fields
row-uneven : (width d : ℕ) (fields : List (List ℕ)) (cs : List FilledColumn) → width ≢ length fields → with_row width d fields cs ≡ None
row-uneven width d fields cs other =
    ap (λ a. cond (a && bytes_eq (get_or fields 0 []) (decimal d)) (with_fields d fields 1 cs) None)
    (ne_eqb (length fields) width (λ e. other (sym e)))

-- ---- all rows

-- so many rows were taken, and what is made of the others is made of all
pub record IsTaking (width : ℕ) (all : List (List (List ℕ))) (first : List FilledColumn) (rdr : TextReader)
    (cs : List FilledColumn) (count : ℕ) : Type 0 where
  pub reading : IsReading rdr
  pub width_is : expected_len rdr ≡ Some width
  pub made : with_rows width 0 all first ≡ with_rows width count (left_of rdr) cs
  pub many : count + length (left_of rdr) ≡ length all
  pub room : AllByRecursion (HasRoom count) cs

-- none was taken yet
pub taking-start : (width : ℕ) (rdr : TextReader) (cs : List FilledColumn) → IsReading rdr → expected_len rdr ≡ Some width
    → AllByRecursion (HasRoom 0) cs → IsTaking width (left_of rdr) cs rdr cs 0
taking-start width rdr cs reading is room =
    record { reading = reading; width_is = is; made = refl; many = omega arith; room = room }

module _ (width : ℕ) (all : List (List (List ℕ))) (first : List FilledColumn) (rdr : TextReader) (cs : List FilledColumn) (count : ℕ)
    (h : IsTaking width all first rdr cs count) where
  -- none is left
  pub taking-end : left_of rdr ≡ [] → (with_rows width 0 all first ≡ Some cs) × (count ≡ length all)
  unfolding with_rows
  taking-end none =
      (h.made ∙ ap (λ rows. with_rows width count rows cs) none, let n = ap length none in omega (arith, h.many, n))

  behind-one : (fields : List (List ℕ)) (rows : List (List (List ℕ))) → left_of rdr ≡ fields ∷ rows
      → with_rows width 0 all first ≡ (with_row width count fields cs >>= λ next. with_rows width (count + 1) rows next)
  unfolding with_rows
  behind-one fields rows e = h.made ∙ ap (λ rows. with_rows width count rows cs) e

  -- the next record has another number of fields
  pub taking-uneven : IsUneven rdr → with_rows width 0 all first ≡ None
  taking-uneven u =
      let same : u.width ≡ width = same_Some u.width width (sym u.expected ∙ h.width_is) in
      behind-one u.fields u.rest u.left
      ∙ ap (λ o. o >>= λ next. with_rows width (count + 1) u.rest next)
      (row-uneven width count u.fields cs (λ e. u.other (same ∙ e)))

  -- the next record isn't read
  pub taking-unread : (e : CsvError) (new : TextReader) (fields : List (List ℕ)) → ReadsRecord rdr new fields (Err e)
      → IsRefused e (with_rows width 0 all first)
  taking-unread OutOfMemory new fields r = tt
  taking-unread BadCsv new fields r = taking-uneven r
  taking-unread _ new fields r = absurd r

  width-of : (new : TextReader) (fields : List (List ℕ)) → TookFields rdr new fields → width ≡ length fields
  width-of new fields t = subst (λ o. IfSome o (λ n. n ≡ length fields)) h.width_is t.same

  -- the next record isn't one of the next row
  pub taking-bad : (new : TextReader) (fields : List (List ℕ)) → TookFields rdr new fields
      → with_row (length fields) count fields cs ≡ None → with_rows width 0 all first ≡ None
  taking-bad new fields t none =
      behind-one fields (left_of new) t.left
      ∙ ap (λ o. o >>= λ next. with_rows width (count + 1) (left_of new) next)
      (ap (λ w. with_row w count fields cs) (width-of new fields t) ∙ none)

  -- the next row is refused
  pub taking-refused : (e : CsvError) (new : TextReader) (fields : List (List ℕ)) → TookFields rdr new fields
      → IsRefused e (with_row (length fields) count fields cs) → IsRefused e (with_rows width 0 all first)
  taking-refused OutOfMemory new fields t m = tt
  taking-refused BadCsv new fields t m = taking-bad new fields t m
  taking-refused _ new fields t m = absurd m

  -- the next row was taken
  pub taking-more : (new : TextReader) (fields : List (List ℕ)) (ds : List FilledColumn) → TookFields rdr new fields
      → with_row (length fields) count fields cs ≡ Some ds → AllByRecursion (HasRoom (count + 1)) ds
      → IsTaking width all first new ds (count + 1)
  taking-more new fields ds t some room = record {
    reading = t.reading;
    width_is = t.width ∙ ap Some (sym (width-of new fields t));
    made = behind-one fields (left_of new) t.left
        ∙ ap (λ o. o >>= λ next. with_rows width (count + 1) (left_of new) next)
        (ap (λ w. with_row w count fields cs) (width-of new fields t) ∙ some);
    many = let n = ap length t.left in omega (arith, h.many, n);
    room = room;
  }

  -- fewer records are left than rows are counted
  pub taking-past : length all < 2 ^ 32 - 1 → 2 ^ 32 - 1 ≤ count → ⊥
  taking-past few past = omega (arith, h.many)
