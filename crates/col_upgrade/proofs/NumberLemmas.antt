-- Columns whose index stands in another version stand for the same.
use Rattle.std.proofs.Common.{◌≡◌, ℕ, ◌+◌, ◌-◌, ◌<◌, ◌≤◌, ◌^◌, ◌==◌, ◌&&◌, nat_le, true, false, List, [], ◌∷◌, ◌++◌, length, length-append, append_assoc, take, drop, map, sum, is_some, Option, Some, None, Result, Ok, Err, IfOk, refl, sym, ap, ◌∙◌, subst, arith}
use Rattle.std.specs.Result.{IfErr}
use Rattle.std.specs.Int.{w32, w64, to_le_bytes, from_le_bytes}
use Rattle.std.specs.List.{list_all}
use Rattle.std.proofs.lemmas.Bool.{leb-true}
use Rattle.std.proofs.lemmas.List.{length-drop, length-take-le}
use Rattle.col_common.specs.Decoding.{Refuses}
use Rattle.col_common.specs.declared.error.ColumnarError.{ColumnarError}
use Rattle.col_common.specs.declared.error.ColumnarError.TheVariants.{OutOfMemory}
use Rattle.col_common.specs.Reading.{◌>>=◌, only_if, front, back, parts_by_first}
use Rattle.col_common.specs.Ascending.{are_below}
use Rattle.col_model.specs.Column.{column, number_cell, number_rows, stored_numbers, is_stored, term_column, cut_content, term_cell}
use Rattle.col_model.specs.ColumnType.{ColumnType, has_terms}
use Rattle.col_model.specs.Dictionary.{cut, terms}
use Rattle.col_model.specs.Index.{Counts, counts}
use Rattle.col_model.specs.Spelling.{column_bytes}
use Rattle.col_model.specs.Table.{Content}
use Rattle.col_model.specs.U64List.{joined_lists}
use Rattle.col_model.specs.Version.{current_version}
use Rattle.col_model.proofs.DecodedColumns.{AreRows, rows-are}
use Rattle.col_model.proofs.DecodedNumbers.{step-of, if-of}
use Rattle.col_model.proofs.ListLaws.{sum-cons}
use Rattle.col_model.proofs.SharedTypes.{some≢none}
use Rattle.col_model.proofs.ReadingLaws.{parts_by_first-w64, back-append, front-append}
use Rattle.col_dynamic_open.specs.Contents.{DecodesTo}
use Rattle.col_upgrade.specs.Again.{IsCountable, HasRows, HasTexts, AddsRows, AreTexts, StandsForContent}

-- a step that gave something goes on with it
known-step : {A B : Type 0} (o : Option A) (f : A → Option B) (x : A) (y : B) → o ≡ Some x → (o >>= f) ≡ Some y → f x ≡ Some y
known-step o f x y e h = subst (λ o. (o >>= f) ≡ Some y) e h

-- ---- an index and values

-- what follows the parts of a number column
abbrev behind : ColumnType → ℕ → ℕ → List ℕ × List ℕ → Option (Counts × List (List ℕ))
behind t version n parts =
    counts parts.0 version n >>= λ c. stored_numbers t parts.1 >>= λ numbers.
    only_if ((sum c.of_rows == length numbers) && list_all (is_stored t) numbers) (c, cut c.of_rows numbers)

-- the rows by the parts
rows-behind : (bytes : List ℕ) (t : ColumnType) (version n : ℕ)
    → number_rows bytes t version n ≡ (parts_by_first w64 bytes >>= behind t version n)
unfolding number_rows
rows-behind bytes t version n = refl

-- Another index of the same counts in front of the same values leaves the rows of each type.
pub rows-again : (bytes index values made : List ℕ) (version n : ℕ) → parts_by_first w64 bytes ≡ Some (index, values)
    → length made < 2 ^ 64 → counts made current_version n ≡ counts index version n → (t : ColumnType)
    → number_rows (column_bytes made values) t current_version n ≡ number_rows bytes t version n
unfolding column_bytes
rows-again bytes index values made version n parted short same t =
    rows-behind ((made ++ values) ++ to_le_bytes w64 (length made)) t current_version n
    ∙ ap (λ o. o >>= behind t current_version n) (parts_by_first-w64 made values short)
    ∙ ap (λ (o : Option Counts). o >>= λ c. stored_numbers t values >>= λ numbers.
    only_if ((sum c.of_rows == length numbers) && list_all (is_stored t) numbers) (c, cut c.of_rows numbers)) same
    ∙ ap (λ o. o >>= behind t version n) (sym parted)
    ∙ sym (rows-behind bytes t version n)

-- An index, values and the length of the index were added, one behind another.
pub rows-added : (old a b c bytes index values made : List ℕ) (version n : ℕ) → a ≡ old ++ made → b ≡ a ++ values
    → c ≡ b ++ to_le_bytes w64 (length made) → parts_by_first w64 bytes ≡ Some (index, values) → length made < 2 ^ 64
    → counts made current_version n ≡ counts index version n → AddsRows old c bytes version n
unfolding column_bytes
rows-added old a b c bytes index values made version n first second third parted short same = record {
  part = column_bytes made values;
  added = third ∙ ap (λ b. b ++ to_le_bytes w64 (length made)) (second ∙ ap (λ a. a ++ values) first)
      ∙ ap (λ b. b ++ to_le_bytes w64 (length made)) (append_assoc old made values)
      ∙ append_assoc old (made ++ values) (to_le_bytes w64 (length made));
  same = rows-again bytes index values made version n parted short same;
}

-- lists have as many items as are joined
sum-joined : (xss : List (List ℕ)) → sum (map length xss) ≡ length (joined_lists xss)
sum-joined [] = refl
sum-joined (xs ∷ xss) =
    sum-cons (length xs) (map length xss) ∙ ap (λ n. length xs + n) (sum-joined xss)
    ∙ sym (length-append xs (joined_lists xss))

-- 32 bits count the values of rows that were read
few-values : (t : ColumnType) (n : ℕ) (p : Counts × List (List ℕ)) → AreRows t n p → sum p.0.of_rows < 2 ^ 32
few-values t n p are =
    subst (λ m. m < 2 ^ 32) (sym (ap sum (sym are.runs.lengths) ∙ sum-joined p.1 ∙ ap length are.runs.joined)) are.stored.within.few

-- the same, where the rows are those that a cut gave
few-cut : (t : ColumnType) (n : ℕ) (c : Counts) (rows : List (List ℕ)) (p : Counts × List (List ℕ)) → (c, rows) ≡ p
    → AreRows t n p → sum c.of_rows < 2 ^ 32
few-cut t n c rows p e are = subst (λ (q : Counts × List (List ℕ)). sum q.0.of_rows < 2 ^ 32) (sym e) (few-values t n p are)

-- The index of a column counts its rows.
pub index-countable : (bytes index values : List ℕ) (version n : ℕ) → parts_by_first w64 bytes ≡ Some (index, values)
    → HasRows bytes version n → IsCountable index version n
index-countable bytes index values version n cuts has =
    let whole : (parts_by_first w64 bytes >>= behind has.kind version n) ≡ Some has.rows =
    sym (rows-behind bytes has.kind version n) ∙ has.read in
    let read : behind has.kind version n (index, values) ≡ Some has.rows =
    known-step (parts_by_first w64 bytes) (behind has.kind version n) (index, values) has.rows cuts whole in
    let last : Counts → List ℕ → Option (Counts × List (List ℕ)) =
    λ c numbers. only_if ((sum c.of_rows == length numbers) && list_all (is_stored has.kind) numbers) (c, cut c.of_rows numbers) in
    let a = step-of (counts index version n) (λ c. stored_numbers has.kind values >>= last c) has.rows read in
    let b = step-of (stored_numbers has.kind values) (last a.x) has.rows a.rest in
    let made = if-of ((sum a.x.of_rows == length b.x) && list_all (is_stored has.kind) b.x) (a.x, cut a.x.of_rows b.x) has.rows b.rest in
    let are = rows-are bytes has.kind version n has.rows has.read in
    record {
      counted = a.x;
      read = a.first;
      few = few-cut has.kind n a.x (cut a.x.of_rows b.x) has.rows made.1 are;
    }

-- a column that can be read has two parts
pub rows-cut : (bytes : List ℕ) (version n : ℕ) → HasRows bytes version n → parts_by_first w64 bytes ≡ None → ⊥
rows-cut bytes version n has none =
    some≢none has.rows (sym has.read ∙ rows-behind bytes has.kind version n ∙ ap (λ o. o >>= behind has.kind version n) none)

-- ---- a dictionary in front

-- what follows the parts of a column of terms
abbrev texts-behind : ColumnType → ℕ → ℕ → List ℕ × List ℕ → Option Content
texts-behind t version n parts =
    terms parts.0 >>= λ found. number_rows parts.1 t version n >>= λ p.
    only_if (list_all (are_below (length found)) p.1) (cut_content found (term_cell found) p)

-- the content by the parts
texts-parted : (bytes : List ℕ) (t : ColumnType) (version n : ℕ)
    → term_column bytes t version n ≡ (parts_by_first w32 bytes >>= texts-behind t version n)
unfolding term_column
texts-parted bytes t version n = refl

-- The last bytes of a column of terms spell the length of its dictionary.
pub parts-end : (bytes dict ords : List ℕ) → parts_by_first w32 bytes ≡ Some (dict, ords)
    → (4 ≤ length bytes) × (from_le_bytes w32 (drop (length bytes - 4) bytes) ≡ length dict)
unfolding parts_by_first
parts-end bytes dict ords e =
    let a = step-of (back 4 bytes) (λ p. front (from_le_bytes w32 p.1) p.0) (dict, ords) e in
    let ends = drop (length bytes - 4) bytes in
    let whole : (nat_le 4 (length bytes) ≡ true) × ((take (length bytes - 4) bytes, ends) ≡ a.x) =
    if-of (nat_le 4 (length bytes)) (take (length bytes - 4) bytes, ends) a.x a.first in
    let n = from_le_bytes w32 a.x.1 in
    let cuts : (nat_le n (length a.x.0) ≡ true) × ((take n a.x.0, drop n a.x.0) ≡ (dict, ords)) =
    if-of (nat_le n (length a.x.0)) (take n a.x.0, drop n a.x.0) (dict, ords) a.rest in
    let long : length dict ≡ n =
    ap (λ (p : List ℕ × List ℕ). length p.0) (sym cuts.1)
    ∙ length-take-le n a.x.0 (leb-true n (length a.x.0) cuts.0) in
    (leb-true 4 (length bytes) whole.0, ap (λ (p : List ℕ × List ℕ). from_le_bytes w32 p.1) whole.1 ∙ sym long)

-- two parts in front of four bytes that spell the length of the first
parts-by_end : (a b ends : List ℕ) → 4 ≡ length ends → from_le_bytes w32 ends ≡ length a
    → parts_by_first w32 ((a ++ b) ++ ends) ≡ Some (a, b)
unfolding parts_by_first
parts-by_end a b ends four spells = rw (back-append 4 (a ++ b) ends four) (front-append (from_le_bytes w32 ends) a b spells)

-- The same dictionary in front of the same rows leaves the column of each type.
texts-again : (bytes dict ords part : List ℕ) (version n : ℕ) → parts_by_first w32 bytes ≡ Some (dict, ords)
    → ((t : ColumnType) → number_rows part t current_version n ≡ number_rows ords t version n)
    → AreTexts ((dict ++ part) ++ drop (length bytes - 4) bytes) bytes version n
texts-again bytes dict ords part version n parted same t =
    let known = parts-end bytes dict ords parted in
    let ends = drop (length bytes - 4) bytes in
    let four : 4 ≡ length ends = (let few = known.0 in omega (arith, length-drop (length bytes - 4) bytes)) in
    texts-parted ((dict ++ part) ++ ends) t current_version n
    ∙ ap (λ o. o >>= texts-behind t current_version n) (parts-by_end dict part ends four known.1)
    ∙ ap (λ (rows : Option (Counts × List (List ℕ))). terms dict >>= λ found. rows >>= λ p.
    only_if (list_all (are_below (length found)) p.1) (cut_content found (term_cell found) p)) (same t)
    ∙ ap (λ o. o >>= texts-behind t version n) (sym parted)
    ∙ sym (texts-parted bytes t version n)

-- A dictionary, rows and the last bytes were added, one behind another.
pub texts-added : (start a b c bytes dict ords : List ℕ) (version n : ℕ) → start ≡ [] → a ≡ start ++ dict
    → AddsRows a b ords version n → c ≡ b ++ drop (length bytes - 4) bytes → parts_by_first w32 bytes ≡ Some (dict, ords)
    → AreTexts c bytes version n
texts-added start a b c bytes dict ords version n none first second third parted t =
    let ends = drop (length bytes - 4) bytes in
    ap (λ made. term_column made t current_version n)
    (third ∙ ap (λ b. b ++ ends) (second.added
    ∙ ap (λ a. a ++ second.part) (first ∙ ap (λ front. front ++ dict) none)))
    ∙ texts-again bytes dict ords second.part version n parted second.same t

-- the rows of a column of terms can be read
pub texts-rows : (bytes dict ords : List ℕ) (version n : ℕ) → parts_by_first w32 bytes ≡ Some (dict, ords)
    → HasTexts bytes version n → HasRows ords version n
texts-rows bytes dict ords version n cuts has =
    let whole : (parts_by_first w32 bytes >>= texts-behind has.kind version n) ≡ Some has.content =
    sym (texts-parted bytes has.kind version n) ∙ has.read in
    let read : texts-behind has.kind version n (dict, ords) ≡ Some has.content =
    known-step (parts_by_first w32 bytes) (texts-behind has.kind version n) (dict, ords) has.content cuts whole in
    let last : List (List ℕ) → Counts × List (List ℕ) → Option Content =
    λ found p. only_if (list_all (are_below (length found)) p.1) (cut_content found (term_cell found) p) in
    let a = step-of (terms dict) (λ found. number_rows ords has.kind version n >>= last found) has.content read in
    let b = step-of (number_rows ords has.kind version n) (last a.x) has.content a.rest in
    record { kind = has.kind; rows = b.x; read = b.first }

-- a column of terms that can be read has two parts
pub texts-cut : (bytes : List ℕ) (version n : ℕ) → HasTexts bytes version n → parts_by_first w32 bytes ≡ None → ⊥
texts-cut bytes version n has none =
    some≢none has.content (sym has.read ∙ texts-parted bytes has.kind version n ∙ ap (λ o. o >>= texts-behind has.kind version n) none)

-- it has four bytes at its end
pub texts-long : (bytes : List ℕ) (version n : ℕ) → HasTexts bytes version n → 4 ≤ length bytes
texts-long bytes version n has = by (parts_by_first w32 bytes) refl
  where
    by : (o : Option (List ℕ × List ℕ)) → parts_by_first w32 bytes ≡ o → 4 ≤ length bytes
    by None e = absurd (texts-cut bytes version n has e)
    by (Some p) e = (parts-end bytes p.0 p.1 e).0

-- ---- a column of any type

-- columns of terms that are the same
pub column-texts : (made bytes : List ℕ) (t : ColumnType) (version n : ℕ) → has_terms t ≡ true → AreTexts made bytes version n
    → column made t current_version n ≡ column bytes t version n
unfolding column
column-texts made bytes t version n terms same = rw terms (same t)

-- columns of numbers that are the same
pub column-numbers : (start made bytes : List ℕ) (t : ColumnType) (version n : ℕ) → start ≡ [] → has_terms t ≡ false
    → AddsRows start made bytes version n → column made t current_version n ≡ column bytes t version n
unfolding column
column-numbers start made bytes t version n none terms adds =
    rw terms (ap (λ o. o >>= λ p. Some (cut_content [] (number_cell t) p))
    (ap (λ b. number_rows b t current_version n) (adds.added ∙ ap (λ front. front ++ adds.part) none) ∙ adds.same t))

-- what can be read of a column of terms
pub column-has_texts : (bytes : List ℕ) (t : ColumnType) (version n : ℕ) (c : Content) → has_terms t ≡ true
    → column bytes t version n ≡ Some c → HasTexts bytes version n
unfolding column
column-has_texts bytes t version n c terms read =
    record { kind = t; content = c; read = rw terms at read }

-- what can be read of a column of numbers
pub column-has_rows : (bytes : List ℕ) (t : ColumnType) (version n : ℕ) (c : Content) → has_terms t ≡ false
    → column bytes t version n ≡ Some c → HasRows bytes version n
unfolding column
column-has_rows bytes t version n c terms read =
    let a = step-of (number_rows bytes t version n) (λ p. Some (cut_content [] (number_cell t) p)) c (rw terms at read) in
    record { kind = t; rows = a.x; read = a.first }

-- What was made of a column that can be read stands for the same content.
pub again-decodes : (r : Result (List ℕ) ColumnarError) (o : Option Content) (t : ColumnType) (n : ℕ) → is_some o ≡ true
    → IfOk r (λ made. column made t current_version n ≡ o) → IfErr r (λ e. e ≡ OutOfMemory)
    → DecodesTo (StandsForContent t n) r o
again-decodes (Ok made) None t n some ok err = cc
again-decodes (Ok made) (Some content) t n some ok err = ok
again-decodes (Err e) o t n some ok err = subst (λ e. Refuses e o) (sym err) tt
