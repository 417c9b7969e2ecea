-- The report of open columns.
use Rattle.std.proofs.Common.{◌≡◌, ◌∙◌, ℕ, ◌+◌, ◌<◌, ◌≤◌, Bool, List, [], ◌∷◌, ◌++◌, map, flat_map, length, take, get_or, Option, Some, None, IfSome, decimal, codes, refl, sym, ap, ap₂, subst, append-nil, append_assoc}
use Rattle.std.proofs.lemmas.Grind.{flat_map-append}
use Rattle.std.proofs.lemmas.List.{map_more, take_more, take_all}
use Rattle.std.proofs.lemmas.List.Folds.{flat_map-map}
use Rattle.json.specs.Print.{escape_byte}
use Rattle.serde_json.specs.Data.{Data}
use Rattle.serde_json.specs.Written.{compact_text}
use Rattle.col_model.specs.File.{table_of}
use Rattle.col_model.specs.Keys.{FileKeys}
use Rattle.col_model.specs.Table.{Table}
use Rattle.col_program.specs.Report.{lines_text, rows_line, column_lines, question_line, report_of, Prints}
use Rattle.col_program.proofs.ReportLaws.{Prints-then}
use Rattle.col_file.specs.Files.{IsExpected}
use Rattle.col_opened.specs.Opened.{column_of, open_in, AreOpen}
use Rattle.col_opened.specs.declared.open_columns.OpenColumn.{OpenColumn}
use Rattle.col_opened.specs.declared.open_columns.OpenColumns.{OpenColumns}
use Rattle.col_questions.specs.Questions.{question_of}
use Rattle.col_questions.specs.declared.question.Question.{Question}
use Rattle.col_print.specs.Puts.{SeenOut, Puts}
use Rattle.col_print.proofs.PutsLemmas.{puts_as}
use Rattle.col_report.specs.Open.{report_text}
use Rattle.col_report.specs.Printed.{PutsLines}

-- ---- lines of lists

-- the lines of one element more
pub lines-more : {X : Type 0} (f : X → List Data) (a b c : List ℕ) (xs : List X) (i : ℕ) (x : X) → i < length xs
    → x ≡ get_or xs i x → Prints a b (flat_map f (take i xs)) → Prints b c (f x)
    → Prints a c (flat_map f (take (i + 1) xs))
lines-more f a b c xs i x within at before here =
    let cut : flat_map f (take (i + 1) xs) ≡ flat_map f (take i xs) ++ f x =
    rw (take_more xs i x within, ← at, flat_map-append f (take i xs) (x ∷ []), append-nil (f x)) refl in
    rw cut (Prints-then a b c (flat_map f (take i xs)) (f x) before here)

-- where no item is left, the lines of all are printed
pub lines-all : {X : Type 0} (f : X → List Data) (a b : List ℕ) (xs : List X) (i : ℕ) → length xs ≤ i
    → Prints a b (flat_map f (take i xs)) → Prints a b (flat_map f xs)
lines-all f a b xs i past printed = rw (take_all i xs past) at printed

-- the line of the next item, printed behind the others, makes one more
pub line-more : {X : Type 0} (f : X → Data) (a b c : List ℕ) (xs : List X) (i : ℕ) (x : X) → i < length xs
    → x ≡ get_or xs i x → Prints a b (map f (take i xs)) → Prints b c (f x ∷ [])
    → Prints a c (map f (take (i + 1) xs))
line-more f a b c xs i x within at before here =
    let cut : map f (take (i + 1) xs) ≡ map f (take i xs) ++ f x ∷ [] = rw (map_more f xs i x within, ← at) refl in
    rw cut (Prints-then a b c (map f (take i xs)) (f x ∷ []) before here)

-- where no item is left, each item's line is printed
pub line-all : {X : Type 0} (f : X → Data) (a b : List ℕ) (xs : List X) (i : ℕ) → length xs ≤ i
    → Prints a b (map f (take i xs)) → Prints a b (map f xs)
line-all f a b xs i past printed = rw (take_all i xs past) at printed

-- ---- the whole

questions-lines : (t : Table) (short : Bool) (qs : List Question)
    → map (question_line t short) (map question_of qs) ≡ map (λ q. question_line t short (question_of q)) qs
questions-lines t short [] = refl
questions-lines t short (q ∷ qs) = ap (λ ds. question_line t short (question_of q) ∷ ds) (questions-lines t short qs)

-- the lines of rows, of columns and of questions, one behind another, are the report
pub report-printed : (a b c d : List ℕ) (k : FileKeys) (t : Table) (open_columns : OpenColumns) (cs : List OpenColumn)
    (qs : List Question) (short : Bool) (line : Data) → AreOpen k t open_columns → cs ≡ open_in open_columns
    → line ≡ rows_line k.row_count → Prints a b (line ∷ []) → Prints b c (flat_map (λ c. column_lines short (column_of c)) cs)
    → Prints c d (map (λ q. question_line t short (question_of q)) qs)
    → d ≡ a ++ report_of t (map question_of qs) short
unfolding report_of Prints
report-printed a b c d k t open_columns cs qs short line are same is rows columns answered =
    let n = k.row_count in
    let told = map (λ q. question_line t short (question_of q)) qs in
    let all : Prints a d (rows_line n ∷ (flat_map (λ c. column_lines short (column_of c)) cs ++ told)) =
    Prints-then a b d (rows_line n ∷ []) _ (subst (λ l. Prints a b (l ∷ [])) is rows)
    (Prints-then b c d _ _ columns answered) in
    all
    ∙ ap (λ ds. a ++ lines_text (rows_line n ∷ (ds ++ told)))
    (sym (flat_map-map (column_lines short) column_of cs)
    ∙ ap (flat_map (column_lines short)) (ap (map column_of) same ∙ are.columns))
    ∙ ap₂ (λ m ds. a ++ lines_text (rows_line m ∷ (flat_map (column_lines short) t.columns ++ ds))) (sym are.row_count)
    (sym (questions-lines t short qs))

-- ---- where the file may tell its bytes

-- what follows for each table from what was expected
pub answered-as : {V W : Type 0} (told : Option (List ℕ)) (v : V) (w : W) (P : Table → V → Type 0) (Q : Table → W → Type 0)
    → ((t : Table) → P t v → Q t w) → IfSome told (λ bytes. IsExpected P v (table_of bytes))
    → IfSome told (λ bytes. IsExpected Q w (table_of bytes))
answered-as None v w P Q f are = tt
answered-as (Some bytes) v w P Q f are = by (table_of bytes) are
  where
    by : (o : Option Table) → IsExpected P v o → IsExpected Q w o
    by None are = absurd are
    by (Some t) are = f t are

-- what holds of the table of open columns holds of the file's table
pub report-answered : {V : Type 0} (told : Option (List ℕ)) (k : FileKeys) (c : OpenColumns) (v : V) (P : Table → V → Type 0)
    → IfSome told (λ bytes. IsExpected (λ t columns. AreOpen k t columns) c (table_of bytes))
    → ((t : Table) → AreOpen k t c → P t v)
    → IfSome told (λ bytes. IsExpected P v (table_of bytes))
report-answered told k c v P are opened = answered-as told c v (λ t columns. AreOpen k t columns) P opened are

-- ---- what is put

rows-text : (n : ℕ) → lines_text (rows_line n ∷ []) ≡ codes "[\"rows\"," ++ (decimal n ++ 93 ∷ 10 ∷ [])
unfolding escape_byte
rows-text n =
    let end : ((decimal n ++ 93 ∷ []) ++ 10 ∷ []) ++ [] ≡ decimal n ++ 93 ∷ 10 ∷ [] = simp (append_assoc, append-nil) in
    ap (λ s. codes "[\"rows\"," ++ s) end

-- the line of a row count
pub rows-put : (a b : SeenOut) (n : ℕ) → Puts a b ((codes "[\"rows\"," ++ decimal n) ++ codes "]\n") → PutsLines a b (rows_line n ∷ [])
unfolding PutsLines
rows-put a b n put =
    puts_as a b _ _ (append_assoc (codes "[\"rows\",") (decimal n) (codes "]\n") ∙ sym (rows-text n)) put

-- the lines of a row count, those of columns and the text of answers, one behind another
pub report-put : (a b : SeenOut) (n : ℕ) (open_columns : OpenColumns) (cs : List OpenColumn) (answers : List ℕ) (short : Bool)
    → cs ≡ open_in open_columns
    → Puts a b ((lines_text (rows_line n ∷ []) ++ lines_text (flat_map (λ c. column_lines short (column_of c)) cs)) ++ answers)
    → Puts a b (report_text n short open_columns answers)
unfolding report_text
report-put a b n open_columns cs answers short same put =
    let shown = flat_map (λ c. column_lines short (column_of c)) cs in
    puts_as a b _ _ (ap (λ s. s ++ answers) (sym (flat_map-append (λ d. compact_text d ++ 10 ∷ []) (rows_line n ∷ []) shown))
    ∙ ap (λ cs. lines_text (rows_line n ∷ flat_map (λ c. column_lines short (column_of c)) cs) ++ answers) same) put

-- the text of an open report is the report of the table of its columns
pub report-opened : (n : ℕ) (k : FileKeys) (t : Table) (open_columns : OpenColumns) (qs : List Question) (short : Bool)
    (answers : List ℕ) → AreOpen k t open_columns → n ≡ k.row_count
    → answers ≡ lines_text (map (λ q. question_line t short (question_of q)) qs)
    → report_text n short open_columns answers ≡ report_of t (map question_of qs) short
unfolding report_text Prints
report-opened n k t open_columns qs short answers are count is =
    let cs = open_in open_columns in
    let shown = flat_map (λ c. column_lines short (column_of c)) cs in
    let asked = map (λ q. question_line t short (question_of q)) qs in
    let split = flat_map-append (λ d. compact_text d ++ 10 ∷ []) (rows_line n ∷ []) shown in
    ap₂ (λ s u. s ++ u) split is
    ∙ report-printed [] (lines_text (rows_line n ∷ [])) (lines_text (rows_line n ∷ []) ++ lines_text shown)
    ((lines_text (rows_line n ∷ []) ++ lines_text shown) ++ lines_text asked) k t open_columns cs qs short (rows_line n) are refl
    (ap rows_line count) refl refl refl
