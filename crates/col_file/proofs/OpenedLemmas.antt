-- How many rows a column has that was opened.
use Rattle.std.proofs.Common.{◌≡◌, ℕ, ◌∙◌, Bool, true, false, List, [], map, length, Option, Some, None, Result, Ok, Err, IfOk, IfSome, refl, sym, ap, subst}
use Rattle.std.specs.Prelude.{if◌then◌else◌}
use Rattle.std.specs.Int.{w32}
use Rattle.std.specs.List.{list_all}
use Rattle.std.proofs.lemmas.List.{length-map}
use Rattle.col_common.specs.Decoding.{Decodes}
use Rattle.col_common.specs.Reading.{◌>>=◌, only_if, parts_by_first}
use Rattle.col_common.specs.declared.error.ColumnarError.{ColumnarError}
use Rattle.col_common.specs.declared.error.ColumnarError.TheVariants.{OutOfMemory, InvalidData}
use Rattle.col_dynamic_open.specs.Columns.{Seen, row_count}
use Rattle.col_dynamic_open.specs.Dynamic.{type_of, content_of, dynamic_shape, value_count}
use Rattle.col_dynamic_open.specs.DynamicColumnType.{DynamicColumn}
use Rattle.col_common.specs.Ascending.{are_below}
use Rattle.col_model.specs.Column.{number_cell, term_cell, number_rows, cut_content as content_from, term_column, column}
use Rattle.col_model.specs.ColumnType.{ColumnType, has_terms}
use Rattle.col_model.specs.Dictionary.{terms}
use Rattle.col_model.specs.Index.{Counts}
use Rattle.col_model.specs.Keys.{FileKeys}
use Rattle.col_model.specs.Table.{Cell, Content}
use Rattle.col_model.proofs.DecodedColumns.{rows-are}
use Rattle.col_model.proofs.DecodedNumbers.{step-of, if-of}
use Rattle.col_model.proofs.SharedTypes.{same-some}
use Rattle.col_dynamic_open.specs.Contents.{DecodesTo}
use Rattle.col_dynamic_open.specs.Lenient.{codes_spelled}
use Rattle.col_dynamic_open.specs.LenientValues.{codes_of}
use Rattle.col_dynamic_open.specs.declared.lenient.LenientValues.{LenientValues}
use Rattle.col_file.specs.Columns.{IsTyped, HasContent, HasCodesSpelled, bytes_at, content_at}
use Rattle.col_common.specs.Outside.{SeenFile}
use Rattle.col_file.specs.Files.{IsExpected, AnswersForHandle}
use Rattle.col_file.specs.Handles.{Handle}
use Rattle.col_dynamic_open.proofs.RowLemmas.{seen-rows}

-- rows that are read are as many as are told
read-rows : (bytes : List ℕ) (t : ColumnType) (version n : ℕ) (p : Counts × List (List ℕ)) (cell : ℕ → Cell)
    → number_rows bytes t version n ≡ Some p → length (map (map cell) p.1) ≡ n
read-rows bytes t version n p cell e =
    let a = rows-are bytes t version n p e in
    length-map p.1 (map cell) ∙ sym (length-map p.1 length) ∙ ap length a.runs.lengths ∙ a.counts.long

term-rows : (bytes : List ℕ) (t : ColumnType) (version n : ℕ) (c : Content) → term_column bytes t version n ≡ Some c → length c.rows ≡ n
unfolding term_column
term-rows bytes t version n c g =
    let test : List (List ℕ) → Counts × List (List ℕ) → Bool = λ found p. list_all (are_below (length found)) p.1 in
    let last : List (List ℕ) → Counts × List (List ℕ) → Option Content =
    λ found p. only_if (test found p) (content_from found (term_cell found) p) in
    let a = step-of (parts_by_first w32 bytes) (λ parts. terms parts.0 >>= λ found. number_rows parts.1 t version n >>= last found) c g in
    let b = step-of (terms a.x.0) (λ found. number_rows a.x.1 t version n >>= last found) c a.rest in
    let d = step-of (number_rows a.x.1 t version n) (last b.x) c b.rest in
    let made = if-of (test b.x d.x) (content_from b.x (term_cell b.x) d.x) c d.rest in
    sym (ap (λ (c : Content). length c.rows) made.1) ∙ read-rows a.x.1 t version n d.x (term_cell b.x) d.first

number-rows : (bytes : List ℕ) (t : ColumnType) (version n : ℕ) (c : Content)
    → (number_rows bytes t version n >>= λ p. Some (content_from [] (number_cell t) p)) ≡ Some c → length c.rows ≡ n
number-rows bytes t version n c g =
    let a = step-of (number_rows bytes t version n) (λ p. Some (content_from [] (number_cell t) p)) c g in
    sym (ap (λ (c : Content). length c.rows) (same-some (content_from [] (number_cell t) a.x) c a.rest))
    ∙ read-rows bytes t version n a.x (number_cell t) a.first

-- a column that is read has as many rows as are told
column-rows : (bytes : List ℕ) (t : ColumnType) (version n : ℕ) (c : Content) → column bytes t version n ≡ Some c → length c.rows ≡ n
unfolding column
column-rows bytes t version n c g = by (has_terms t) g
  where
    by : (b : Bool) → (if b then term_column bytes t version n else
        (number_rows bytes t version n >>= λ p. Some (content_from [] (number_cell t) p))) ≡ Some c
        → length c.rows ≡ n
    by true g = term-rows bytes t version n c g
    by false g = number-rows bytes t version n c g

-- an opened column counts as many rows as are told
pub opened-rows : (bytes : List ℕ) (t : ColumnType) (version n : ℕ) (c : DynamicColumn)
    → column bytes t version n ≡ Some (content_of c) → row_count (dynamic_shape c) (value_count c) ≡ n
opened-rows bytes t version n c e = sym (seen-rows c) ∙ column-rows bytes t version n (content_of c) e

-- what a decoder of columns made is of the type and the rows that were told
pub opened-typed : (bytes : List ℕ) (t : ColumnType) (version n : ℕ) (u : ColumnType) (m : ℕ)
    (r : Result DynamicColumn ColumnarError) → t ≡ u → n ≡ m → Decodes content_of r (column bytes t version n)
    → IfOk r (λ c. type_of c ≡ t) → IfOk r (IsTyped u m)
opened-typed bytes t version n u m (Ok c) types rows decoded kind =
    record { kind = kind ∙ types; rows = opened-rows bytes t version n c decoded ∙ rows }
opened-typed bytes t version n u m (Err e) types rows decoded kind = tt

-- a decoded column of a type has the content that is expected
pub has-content : (t : ColumnType) (r : Result DynamicColumn ColumnarError) (expected : Option Content) → Decodes content_of r expected
    → IfOk r (λ c. type_of c ≡ t) → DecodesTo (HasContent t) r expected
has-content t (Ok c) expected e kind =
    subst (DecodesTo (HasContent t) (Ok c)) (sym e) (record { kind = kind; cells = refl })
has-content t (Err e) expected h kind = h

-- what is made of the bytes that a file gives is an answer of the file
answers-then : {T V : Type 0} (IsOf : V → T → Type 0) (old new : SeenFile) (given : List ℕ → Option (List ℕ))
    (read : List ℕ → Option V) (part : List ℕ) (r : Result T ColumnarError)
    → IfSome old.told (λ bytes. IsExpected (λ (expected p : List ℕ). p ≡ expected) part (given bytes))
    → DecodesTo IsOf r (read part) → AnswersForHandle IsOf old new r (λ bytes. given bytes >>= read)
answers-then {T} {V} IsOf old new given read part (Ok made) h d = at old.told h
  where
    expected : (o : Option V) → DecodesTo IsOf (Ok made) o → IsExpected IsOf made o
    expected None e = e
    expected (Some v) e = e

    behind : (o : Option (List ℕ)) → IsExpected (λ (expected p : List ℕ). p ≡ expected) part o → IsExpected IsOf made (o >>= read)
    behind None e = e
    behind (Some p) e = subst (λ q. IsExpected IsOf made (read q)) e (expected (read part) d)

    at : (t : Option (List ℕ))
        → IfSome t (λ bytes. IsExpected (λ (expected p : List ℕ). p ≡ expected) part (given bytes))
        → IfSome t (λ bytes. IsExpected IsOf made (given bytes >>= read))
    at None h = tt
    at (Some bytes) h = behind (given bytes) h
answers-then IsOf old new given read part (Err OutOfMemory) h d = tt
answers-then {T} {V} IsOf old new given read part (Err InvalidData) h d = at old.told h
  where
    behind : (o : Option (List ℕ)) → IsExpected (λ (expected p : List ℕ). p ≡ expected) part o → (o >>= read) ≡ None
    behind None e = absurd e
    behind (Some p) e = ap read (sym e) ∙ d

    at : (t : Option (List ℕ))
        → IfSome t (λ bytes. IsExpected (λ (expected p : List ℕ). p ≡ expected) part (given bytes))
        → IfSome t (λ bytes. (given bytes >>= read) ≡ None)
    at None h = tt
    at (Some bytes) h = behind (given bytes) h
answers-then IsOf old new given read part (Err _) h d = absurd d

-- what a decoder of columns made of a handle's bytes is an answer of its file
pub answers-opened : {T : Type 0} (IsOf : ColumnType → Content → T → Type 0) (old new : SeenFile) (k : FileKeys)
    (h : Handle) (bytes : List ℕ) (t : ColumnType) (version n : ℕ) (r : Result T ColumnarError) → t ≡ h.column_type
    → version ≡ k.version → n ≡ k.row_count
    → AnswersForHandle (λ (expected p : List ℕ). p ≡ expected) old new (Ok bytes) (bytes_at k h)
    → DecodesTo (IsOf t) r (column bytes t version n) → AnswersForHandle (IsOf h.column_type) old new r (content_at k h)
answers-opened IsOf old new k h bytes t version n r types versions rows given d =
    answers-then (IsOf h.column_type) old new (bytes_at k h) (λ part. column part h.column_type k.version k.row_count) bytes r given
    (subst (λ u. DecodesTo (IsOf u) r (column bytes u k.version k.row_count)) types
    (subst (λ v. DecodesTo (IsOf t) r (column bytes t v k.row_count)) versions
    (subst (λ m. DecodesTo (IsOf t) r (column bytes t version m)) rows d)))

-- the codes that a column of numbers has are those that a handle's bytes spell, from which it was made
pub codes-opened : (old new : SeenFile) (k : FileKeys) (h : Handle) (bytes : List ℕ) (t : ColumnType)
    (r : Result (Seen LenientValues) ColumnarError) → t ≡ h.column_type
    → AnswersForHandle (λ (expected p : List ℕ). p ≡ expected) old new (Ok bytes) (bytes_at k h)
    → IfOk r (λ c. codes_of c.values ≡ codes_spelled t bytes)
    → IfOk r (λ c. HasCodesSpelled k h old.told c.values)
codes-opened old new k h bytes t (Err e) types given codes = tt
codes-opened old new k h bytes t (Ok c) types given codes = at old.told given
  where
    same : (o : Option (List ℕ)) → IsExpected (λ (expected p : List ℕ). p ≡ expected) bytes o
        → IfSome o (λ part. codes_of c.values ≡ codes_spelled h.column_type part)
    same None e = tt
    same (Some part) e =
        codes ∙ ap (λ u. codes_spelled u bytes) types ∙ ap (codes_spelled h.column_type) e

    at : (told : Option (List ℕ))
        → IfSome told (λ all. IsExpected (λ (expected p : List ℕ). p ≡ expected) bytes (bytes_at k h all))
        → HasCodesSpelled k h told c.values
    at None given = tt
    at (Some all) given = same (bytes_at k h all) given
