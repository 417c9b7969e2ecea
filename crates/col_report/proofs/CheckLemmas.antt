-- The lines of entries of which it is told whether they are columns.
use Rattle.std.proofs.Common.{◌≡◌, ◌∙◌, ℕ, zero, suc, ◌+◌, ◌<◌, Bool, List, [], ◌∷◌, ◌++◌, map, length, take, get_or, Option, Some, None, IfSome, refl, sym, ap, subst, arith}
use Rattle.serde_json.specs.Data.{Data}
use Rattle.col_program.specs.Check.{entry_line, check_report}
use Rattle.col_model.specs.File.{part_column, parts_of}
use Rattle.col_model.specs.Keys.{Entry, FileKeys, keys}
use Rattle.col_program.specs.Report.{rows_line, lines_text, Prints}
use Rattle.col_model.proofs.FileLaws.{parts_of-keys}
use Rattle.col_program.proofs.ReportLaws.{Prints-then}
use Rattle.col_file.specs.Checks.{is_column}
use Rattle.col_file.specs.Files.{IsExpected}
use Rattle.col_file.specs.Handles.{Handle, listed}
use Rattle.col_report.specs.Checked.{told_line, told_lines, lines_told}

-- ---- one line more

told-next : (ps : List (List ℕ × Handle)) (told : List Bool) (i : ℕ) (p : List ℕ × Handle) (whole : Bool)
    → i < length ps → i < length told
    → told_lines (take (suc i) ps) (take (suc i) told)
    ≡ told_lines (take i ps) (take i told) ++ told_line (get_or ps i p) (get_or told i whole) ∷ []
told-next [] told i p whole a b = absurd (omega (arith, a))
told-next (q ∷ ps) [] i p whole a b = absurd (omega (arith, b))
told-next (q ∷ ps) (w ∷ told) zero p whole a b = refl
told-next (q ∷ ps) (w ∷ told) (suc i) p whole a b =
    ap (λ ds. told_line q w ∷ ds) (told-next ps told i p whole (omega (arith, a)) (omega (arith, b)))

-- an item of a list that is mapped
pub mapped-at : {X Y : Type 0} (f : X → Y) (xs : List X) (i : ℕ) (x : X) → i < length xs → x ≡ get_or xs i x
    → f x ≡ get_or (map f xs) i (f x)
mapped-at f [] i x within at = absurd (omega (arith, within))
mapped-at f (y ∷ xs) zero x within at = ap f at
mapped-at f (y ∷ xs) (suc i) x within at = mapped-at f xs i x (omega (arith, within)) at

-- the line of the next entry, printed behind the others, makes one more
pub told-more : (a b c : List ℕ) (ps : List (List ℕ × Handle)) (told : List Bool) (i : ℕ) (p : List ℕ × Handle) (whole : Bool)
    → i < length ps → i < length told → p ≡ get_or ps i p → Prints a b (told_lines (take i ps) (take i told))
    → Prints b c (told_line p (get_or told i whole) ∷ [])
    → Prints a c (told_lines (take (i + 1) ps) (take (i + 1) told))
told-more a b c ps told i p whole within long at before here =
    let on : suc i ≡ i + 1 = omega arith in
    let now = told_line p (get_or told i whole) in
    let cut : told_lines (take (i + 1) ps) (take (i + 1) told) ≡ told_lines (take i ps) (take i told) ++ now ∷ [] =
    sym (ap (λ n. told_lines (take n ps) (take n told)) on) ∙ told-next ps told i p whole within long
    ∙ ap (λ q. told_lines (take i ps) (take i told) ++ told_line q (get_or told i whole) ∷ []) (sym at) in
    subst (Prints a c) (sym cut) (Prints-then a b c (told_lines (take i ps) (take i told)) (now ∷ []) before here)

-- ---- the whole

-- what is told of a file's entries makes the lines of its part
lines-of_entries : (bytes : List ℕ) (k : FileKeys) (es : List Entry)
    → told_lines (map listed es) (map (is_column bytes k) es) ≡ map entry_line (map (part_column bytes k) es)
lines-of_entries bytes k [] = refl
lines-of_entries bytes k (e ∷ es) = ap (λ ds. told_line (listed e) (is_column bytes k e) ∷ ds) (lines-of_entries bytes k es)

-- lines of a row count, and of entries behind it, are those of a report
pub entries-printed : (a b c : List ℕ) (n : ℕ) (line : Data) (ps qs : List (List ℕ × Handle)) (told : List Bool)
    → a ≡ [] → line ≡ rows_line n → qs ≡ ps → Prints a b (line ∷ []) → Prints b c (told_lines qs told)
    → Prints [] c (rows_line n ∷ told_lines ps told)
entries-printed a b c n line ps qs told none is same first rest =
    subst (λ s. Prints s c (rows_line n ∷ told_lines ps told)) none
    (subst (λ l. Prints a c (l ∷ told_lines ps told)) is
    (subst (λ q. Prints a c (line ∷ told_lines q told)) same
    (Prints-then a b c (line ∷ []) (told_lines qs told) first rest)))

-- the same by the keys and by what was told as a call saw them
pub printed-as : (k k2 : FileKeys) (told told2 : List Bool) (text : List ℕ) → k2 ≡ k → told2 ≡ told
    → Prints [] text (lines_told k2 told2) → Prints [] text (lines_told k told)
printed-as k k2 told told2 text same alike printed =
    subst (λ (j : FileKeys). Prints [] text (lines_told j told)) same (subst (λ t. Prints [] text (lines_told k2 t)) alike printed)

-- what is told of each entry of a file is the report of a check of it
report-is : (bytes : List ℕ) (k : FileKeys) (whole : List Bool) (text : List ℕ) → whole ≡ map (is_column bytes k) k.entries
    → Prints [] text (lines_told k whole)
    → text ≡ check_report (record { row_count = k.row_count; columns = map (part_column bytes k) k.entries })
unfolding check_report Prints
report-is bytes k whole text is printed =
    printed ∙ ap (λ told. lines_text (lines_told k told)) is
    ∙ ap (λ ds. lines_text (rows_line k.row_count ∷ ds)) (lines-of_entries bytes k k.entries)

-- the same where the file may tell its bytes
pub report-checked : {A : Type 0} (items : A → List ℕ) (made : A) (told : Option (List ℕ)) (k : FileKeys) (whole : List Bool)
    → IfSome told (λ bytes. keys bytes ≡ Some k) → IfSome told (λ bytes. whole ≡ map (is_column bytes k) k.entries)
    → Prints [] (items made) (lines_told k whole)
    → IfSome told (λ bytes. IsExpected (λ p v. items v ≡ check_report p) made (parts_of bytes))
report-checked items made None k whole read are printed = tt
report-checked items made (Some bytes) k whole read are printed =
    subst (IsExpected (λ p v. items v ≡ check_report p) made) (sym (parts_of-keys bytes k read))
    (report-is bytes k whole (items made) are printed)
