-- Columns of numbers in place of columns of any type.
use Rattle.std.proofs.Common.{◌≡◌, ℕ, ◌==◌, ◌&&◌, nat_lt, option_map, Result, Err, Bool, true, false, List, [], length, map, sum, Option, Some, None, Ok, refl, sym, ap, ◌∙◌, subst}
use Rattle.std.specs.Prelude.{IfOk, if◌then◌else◌}
use Rattle.std.specs.Int.{w32, w64}
use Rattle.std.specs.List.{list_all}
use Rattle.std.proofs.lemmas.Bool.{eqb-true, false≢true}
use Rattle.std.proofs.lemmas.List.{length-map}
use Rattle.std.proofs.lemmas.Option.{same_Some}
use Rattle.col_common.specs.Decoding.{Refuses, Decodes}
use Rattle.col_common.specs.Reading.{◌>>=◌, only_if, parts_by_first}
use Rattle.col_common.specs.declared.error.ColumnarError.{ColumnarError}
use Rattle.col_common.proofs.DecodingLemmas.{refuses-as}
use Rattle.col_dynamic.specs.Columns.{Seen, IsCounted, counts_by, rows_by, content_seen}
use Rattle.col_dynamic.specs.Opened.{counted_rows, codes_behind}
use Rattle.col_compact.specs.Coded.{Coded, numbers_of}
use Rattle.col_dynamic.specs.Offsets.{cardinality_in}
use Rattle.col_common.specs.Ascending.{are_below}
use Rattle.col_model.specs.AddressList.{coded_number}
use Rattle.col_model.specs.Column.{number_rows, term_column, number_cell, cut_content, column}
use Rattle.col_model.specs.ColumnType.{ColumnType, has_terms, same_type}
use Rattle.col_model.specs.ColumnType as types
use Rattle.col_model.specs.Dictionary.{cut, terms}
use Rattle.col_model.specs.Images.{is_image_of_bool}
use Rattle.col_model.specs.Index.{Counts, Shape, counts}
use Rattle.col_model.specs.Table.{Content}
use Rattle.col_model.specs.U64List.{values64}
use Rattle.col_dynamic.specs.NumValues.{num_values_of}
use Rattle.col_dynamic.specs.NumValuesType.{NumValues}
use Rattle.col_dynamic.specs.Texts.{texts_content}
use Rattle.col_dynamic.proofs.CellLemmas.{cut-map}
use Rattle.col_dynamic.proofs.OpenSeenLemmas.{all-pass}
use Rattle.col_dynamic.proofs.OpenTextLemmas.{all-cut, all-rows, texts-as-bytes, ordinals-below}
use Rattle.col_dynamic.proofs.OpenTextLemmas as opened
use Rattle.col_dynamic.proofs.CoercionLemmas.{maps}
use Rattle.col_dynamic_open.specs.Contents.{DecodesTo}
use Rattle.col_dynamic_open.specs.Lenient.{IsInPlaceOf, codes_spelled, seen_as}
use Rattle.col_dynamic_open.specs.LenientValues.{lenient_cell, are_codes, codes_of}
use Rattle.col_dynamic_open.specs.declared.lenient.LenientValues.{LenientValues}
use Rattle.col_dynamic_open.specs.declared.lenient.LenientValues.TheVariants.{Num, Compact}
use Rattle.col_dynamic_open.proofs.DecodesLemmas.{decodes-to}

-- ---- what rows of numbers stand for, in a column without terms

module _ (t : ColumnType) (none : has_terms t ≡ false) (bytes : List ℕ) (version rows : ℕ) where
  of_rows : (o : Option (Counts × List (List ℕ))) → number_rows bytes t version rows ≡ o
      → column bytes t version rows ≡ (o >>= λ p. Some (cut_content [] (number_cell t) p))
  unfolding column
  of_rows o e = rw (none, e) refl

-- ---- types that store all numbers

-- the rows of its numbers are those of ordinals, and it has just these numbers
pub record IsPlain (t : ColumnType) : Type 0 where
  pub no_terms : has_terms t ≡ false
  pub rows : (bytes : List ℕ) (version rows : ℕ) → number_rows bytes t version rows ≡ number_rows bytes types.bytes version rows
  pub in_place : (s : Shape) (v : NumValues ℕ)
      → IsInPlaceOf t (content_seen [] (number_cell t) s (num_values_of v)) (record { shape = s; values = Num v })

rows-i64 : (bytes : List ℕ) (version rows : ℕ) → number_rows bytes types.i64 version rows ≡ number_rows bytes types.bytes version rows
unfolding number_rows
rows-i64 bytes version rows = refl

rows-u64 : (bytes : List ℕ) (version rows : ℕ) → number_rows bytes types.u64 version rows ≡ number_rows bytes types.bytes version rows
unfolding number_rows
rows-u64 bytes version rows = refl

rows-datetime : (bytes : List ℕ) (version rows : ℕ)
    → number_rows bytes types.datetime version rows ≡ number_rows bytes types.bytes version rows
unfolding number_rows
rows-datetime bytes version rows = refl

-- a column of i64 has the rows of its stored numbers, which stand in place of its cells
pub plain-i64 : IsPlain types.i64
plain-i64 = record {
  no_terms = refl;
  rows = rows-i64;
  in_place = λ s v. record { cells = refl; ordinals = λ h. absurd (false≢true h); codes = refl };
}

-- a column of u64 has the rows of its stored numbers, which stand in place of its cells
pub plain-u64 : IsPlain types.u64
plain-u64 = record {
  no_terms = refl;
  rows = rows-u64;
  in_place = λ s v. record { cells = refl; ordinals = λ h. absurd (false≢true h); codes = refl };
}

-- a column of points in time has the rows of its stored numbers, which stand in place of its cells
pub plain-datetime : IsPlain types.datetime
plain-datetime = record {
  no_terms = refl;
  rows = rows-datetime;
  in_place = λ s v. record { cells = refl; ordinals = λ h. absurd (false≢true h); codes = refl };
}

module _ (t : ColumnType) (plain : IsPlain t) (bytes : List ℕ) (version rows : ℕ) where
  -- rows of numbers that are read are seen in place of a column of numbers
  pub plain-opened : (c : Seen (NumValues ℕ))
      → number_rows bytes types.bytes version rows ≡ Some (counted_rows c.shape (num_values_of c.values))
      → DecodesTo (IsInPlaceOf t) (Ok (seen_as c)) (column bytes t version rows)
  plain-opened c e =
      let seen = content_seen [] (number_cell t) c.shape (num_values_of c.values) in
      decodes-to (IsInPlaceOf t) (seen_as c) (column bytes t version rows) seen
      (of_rows t plain.no_terms bytes version rows (Some (counted_rows c.shape (num_values_of c.values)))
      (plain.rows bytes version rows ∙ e))
      (plain.in_place c.shape c.values)

  -- a refusal of the rows is one of a column of numbers
  pub plain-refused : (e : ColumnarError) → Refuses e (number_rows bytes types.bytes version rows) → Refuses e (column bytes t version rows)
  plain-refused e = refuses-as e (number_rows bytes types.bytes version rows) (column bytes t version rows) (λ n.
      of_rows t plain.no_terms bytes version rows None (plain.rows bytes version rows ∙ n))

-- ---- flags

-- rows, where each number is that of a flag
abbrev flags : Counts × List (List ℕ) → Option (Counts × List (List ℕ))
flags p = only_if (list_all (list_all is_image_of_bool) p.1) p

-- how `number_rows` tests counts and numbers
abbrev tested : (ℕ → Bool) → Counts → List ℕ → Option (Counts × List (List ℕ))
tested is_code c xs = only_if ((sum c.of_rows == length xs) && list_all is_code xs) (c, cut c.of_rows xs)

tested-flags : (c : Counts) (xs : List ℕ) (t : Bool) → (sum c.of_rows == length xs) ≡ t
    → only_if {A = Counts × List (List ℕ)} (t && list_all is_image_of_bool xs) (c, cut c.of_rows xs)
    ≡ (only_if (t && list_all (λ n. true) xs) (c, cut c.of_rows xs) >>= flags)
tested-flags c xs false e = refl
tested-flags c xs true e =
    rw (all-pass xs) (ap (λ b. only_if {A = Counts × List (List ℕ)} b (c, cut c.of_rows xs))
    (sym (all-cut is_image_of_bool c.of_rows xs (eqb-true (sum c.of_rows) (length xs) e))))

rows-flags : (bytes : List ℕ) (version rows : ℕ)
    → number_rows bytes types.bool version rows ≡ (number_rows bytes types.bytes version rows >>= flags)
unfolding number_rows
rows-flags bytes version rows = at (parts_by_first w64 bytes)
  where
    behind : (o : Option Counts) (l : Option (List ℕ))
        → (o >>= λ c. l >>= tested is_image_of_bool c) ≡ ((o >>= λ c. l >>= tested (λ n. true) c) >>= flags)
    behind None l = refl
    behind (Some c) None = refl
    behind (Some c) (Some xs) = tested-flags c xs (sum c.of_rows == length xs) refl

    at : (o : Option (List ℕ × List ℕ))
        → (o >>= λ p. counts p.0 version rows >>= λ c. values64 p.1 >>= tested is_image_of_bool c)
        ≡ ((o >>= λ p. counts p.0 version rows >>= λ c. values64 p.1 >>= tested (λ n. true) c) >>= flags)
    at None = refl
    at (Some p) = behind (counts p.0 version rows) (values64 p.1)

-- what a test of all numbers lets through, where it is expected
made-behind : {T V : Type 0} (IsOf : V → T → Type 0) (made : T) (value : V) (o : Option V) (t : Bool)
    → o ≡ only_if t value → (t ≡ true → IsOf value made) → (r : Result T ColumnarError)
    → Decodes (λ c. c) r (only_if t made) → DecodesTo IsOf r o
made-behind {T = T} IsOf made value o true e is (Ok c) h =
    decodes-to IsOf c o value e (subst (IsOf value) (same_Some made c h) (is refl))
made-behind IsOf made value o false e is (Ok c) h = cc
made-behind IsOf made value o true e is (Err f) h = refuses-as f (Some made) o (λ n. cc) h
made-behind IsOf made value o false e is (Err f) h = refuses-as f None o (λ n. e) h

module _ (bytes : List ℕ) (version rows : ℕ) where
  -- a refusal of the rows is one of a column of bools
  pub flags-refused : (e : ColumnarError) → Refuses e (number_rows bytes types.bytes version rows)
      → Refuses e (column bytes types.bool version rows)
  flags-refused e = refuses-as e (number_rows bytes types.bytes version rows) (column bytes types.bool version rows) (λ n.
      of_rows types.bool refl bytes version rows None (rows-flags bytes version rows ∙ ap (λ o. o >>= flags) n))

  -- numbers that are read, and tested
  pub flags-opened : (c : Seen (NumValues ℕ)) → IsCounted c.shape (length (num_values_of c.values))
      → number_rows bytes types.bytes version rows ≡ Some (counted_rows c.shape (num_values_of c.values))
      → (r : Result (Seen LenientValues) ColumnarError)
      → Decodes (λ c. c) r (only_if (are_below 2 (num_values_of c.values)) (seen_as c))
      → DecodesTo (IsInPlaceOf types.bool) r (column bytes types.bool version rows)
  flags-opened c counted e =
      let xs = num_values_of c.values in
      let content = content_seen [] (number_cell types.bool) c.shape xs in
      let all = are_below 2 xs in
      let found : number_rows bytes types.bool version rows ≡ only_if all (counted_rows c.shape xs) =
      rows-flags bytes version rows ∙ ap (λ o. o >>= flags) e
      ∙ ap (λ b. only_if b (counted_rows c.shape xs)) (all-rows is_image_of_bool c.shape xs counted) in
      made-behind (IsInPlaceOf types.bool) (seen_as c) content (column bytes types.bool version rows) all
      (of_rows types.bool refl bytes version rows (only_if all (counted_rows c.shape xs)) found ∙ mapped all c.shape xs)
      (λ h. record { cells = refl; ordinals = λ h. absurd (false≢true h); codes = refl })
    where
      mapped : (t : Bool) (s : Shape) (xs : List ℕ)
          → (only_if t (counted_rows s xs) >>= λ p. Some (cut_content [] (number_cell types.bool) p))
          ≡ only_if t (content_seen [] (number_cell types.bool) s xs)
      mapped true s xs = refl
      mapped false s xs = refl

-- ---- ordinals

-- what is seen in place of a column of bytes is seen in place of one of str
pub texts-opened : (bytes : List ℕ) (version rows : ℕ) (r : Result (Seen LenientValues) ColumnarError)
    → DecodesTo (IsInPlaceOf types.bytes) r (column bytes types.bytes version rows)
    → DecodesTo (IsInPlaceOf types.str) r (column bytes types.str version rows)
texts-opened bytes version rows r =
    at (column bytes types.str version rows) (column bytes types.bytes version rows) r
    (texts-as-bytes bytes version rows)
  where
    at : (o p : Option Content) (r : Result (Seen LenientValues) ColumnarError) → o ≡ p
        → DecodesTo (IsInPlaceOf types.bytes) r p → DecodesTo (IsInPlaceOf types.str) r o
    at o None (Ok c) e h = absurd h
    at o (Some content) (Ok c) e h =
        decodes-to (IsInPlaceOf types.str) c o content e
        (record { cells = h.cells; ordinals = h.ordinals; codes = h.codes })
    at o p (Err f) e h = refuses-as f p o (λ n. e ∙ n) h

module _ (bytes : List ℕ) (version rows : ℕ) where
  module _ (a b : List ℕ) (parts : parts_by_first w32 bytes ≡ Some (a, b)) where
    -- bytes whose first part is no dictionary stand for no column of terms
    pub without_terms : option_map length (terms a) ≡ None → column bytes types.bytes version rows ≡ None
    without_terms e = opened.without_terms bytes version rows a b parts (none (terms a) e)
      where
        none : (o : Option (List (List ℕ))) → option_map length o ≡ None → o ≡ None
        none None h = refl
        none (Some ts) h = cc

    module _ (found : List (List ℕ)) (are : terms a ≡ Some found) where
      with_rows : (c : Seen (NumValues ℕ)) → IsCounted c.shape (length (num_values_of c.values))
          → number_rows b types.bytes version rows ≡ Some (counted_rows c.shape (num_values_of c.values))
          → column bytes types.bytes version rows
          ≡ only_if (are_below (length found) (num_values_of c.values))
          (texts_content (record { terms = found; ords = c }))
      unfolding column term_column
      with_rows c counted e =
          rw (parts, are, e) (ap (λ t. only_if t (texts_content (record { terms = found; ords = c })))
          (all-rows (λ n. nat_lt n (length found)) c.shape (num_values_of c.values) counted))

    -- a refusal of the ordinals' rows is one of a column of terms
    pub ordinals-refused : (count : ℕ) → option_map length (terms a) ≡ Some count → (e : ColumnarError)
        → Refuses e (number_rows b types.bytes version rows) → Refuses e (column bytes types.bytes version rows)
    ordinals-refused count some e = at (terms a) refl some
      where
        at : (o : Option (List (List ℕ))) → terms a ≡ o → option_map length o ≡ Some count
            → Refuses e (number_rows b types.bytes version rows) → Refuses e (column bytes types.bytes version rows)
        at None is h = cc
        at (Some found) is h =
            refuses-as e (number_rows b types.bytes version rows) (column bytes types.bytes version rows)
            (opened.without_rows bytes version rows a b parts found is)

    -- ordinals that are read behind their terms, and tested
    pub ordinals-opened : (count : ℕ) → option_map length (terms a) ≡ Some count → (c : Seen (NumValues ℕ))
        → IsCounted c.shape (length (num_values_of c.values))
        → number_rows b types.bytes version rows ≡ Some (counted_rows c.shape (num_values_of c.values))
        → (r : Result (Seen LenientValues) ColumnarError)
        → Decodes (λ c. c) r (only_if (are_below count (num_values_of c.values)) (seen_as c))
        → DecodesTo (IsInPlaceOf types.bytes) r (column bytes types.bytes version rows)
    ordinals-opened count some c counted e r h = at (terms a) refl some
      where
        xs : List ℕ
        xs = num_values_of c.values

        at : (o : Option (List (List ℕ))) → terms a ≡ o → option_map length o ≡ Some count
            → DecodesTo (IsInPlaceOf types.bytes) r (column bytes types.bytes version rows)
        at None is n = cc
        at (Some found) is n =
            let content = texts_content (record { terms = found; ords = c }) in
            let long : length found ≡ count = same_Some (length found) count n in
            made-behind (IsInPlaceOf types.bytes) (seen_as c) content (column bytes types.bytes version rows) (are_below count xs)
            (with_rows found is c counted e ∙ ap (λ k. only_if (are_below k xs) content) long)
            (λ t. record {
              cells = refl;
              ordinals = λ h. ordinals-below (length found) xs (sym (ap (λ k. are_below k xs) long ∙ t));
              codes = refl;
            })
            r h

-- ---- codes

-- numbers in place of a column of another type are no codes
pub no_codes : (t : ColumnType) → same_type t types.ip ≡ false
    → (bytes : List ℕ) (r : Result (Seen LenientValues) ColumnarError) (o : Option Content)
    → DecodesTo (IsInPlaceOf t) r o → IfOk r (λ c. codes_of c.values ≡ codes_spelled t bytes)
no_codes t other bytes (Ok c) None h = absurd h
no_codes t other bytes (Ok c) (Some content) h =
    none c.values (h.codes ∙ other) ∙ sym (ap (λ b. if b then codes_behind bytes else None) other)
  where
    none : (v : LenientValues) → are_codes v ≡ false → codes_of v ≡ None
    none (Num v) e = refl
    none (Compact d) e = absurd (false≢true (sym e))
no_codes t other bytes (Err e) o h = tt

-- numbers behind codes have the cells of their codes
in_codes : (s : Shape) (d : Coded)
    → content_seen [] (number_cell types.ip) s (numbers_of d)
    ≡ content_seen [] (lenient_cell types.ip [] (Compact d)) s d.codes
unfolding rows_by
in_codes s d =
    let f : ℕ → ℕ = coded_number d.ranges in
    let long : length (map f d.codes) ≡ length d.codes = length-map d.codes f in
    let rows : map (map (number_cell types.ip)) (cut (counts_by s (length (map f d.codes))) (map f d.codes)) ≡ map
    (map (λ n. number_cell types.ip (f n))) (cut (counts_by s (length d.codes)) d.codes) =
    ap (λ n. map (map (number_cell types.ip)) (cut (counts_by s n) (map f d.codes))) long
    ∙ ap (map (map (number_cell types.ip))) (cut-map f (counts_by s (length d.codes)) d.codes)
    ∙ maps (number_cell types.ip) f (cut (counts_by s (length d.codes)) d.codes)
    in
    ap (λ r. record { cardinality = cardinality_in s; terms = []; rows = r }) rows

module _ (bytes : List ℕ) (version rows : ℕ) where
  -- a refusal of the rows is one of a column of addresses
  pub codes-refused : (e : ColumnarError) → Refuses e (number_rows bytes types.ip version rows)
      → Refuses e (column bytes types.ip version rows)
  codes-refused e = refuses-as e (number_rows bytes types.ip version rows) (column bytes types.ip version rows) (λ n.
      of_rows types.ip refl bytes version rows None n)

  -- codes that are read are seen in place of a column of addresses
  pub codes-opened : (s : Shape) (d : Coded)
      → number_rows bytes types.ip version rows ≡ Some (counted_rows s (numbers_of d))
      → DecodesTo (IsInPlaceOf types.ip) (Ok (record { shape = s; values = Compact d }))
      (column bytes types.ip version rows)
  codes-opened s d e =
      decodes-to (IsInPlaceOf types.ip) (record { shape = s; values = Compact d })
      (column bytes types.ip version rows) (content_seen [] (number_cell types.ip) s (numbers_of d))
      (of_rows types.ip refl bytes version rows (Some (counted_rows s (numbers_of d))) e)
      (record { cells = in_codes s d; ordinals = λ h. absurd (false≢true h); codes = refl })
