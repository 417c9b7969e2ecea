-- The lines of rows with a value, by where their values end.
use Rattle.std.proofs.Common.{◌≡◌, ◌∙◌, ℕ, zero, suc, ◌+◌, ◌-◌, ◌<◌, ◌≤◌, not, nat_lt, true, cond, List, [], ◌∷◌, ◌++◌, map, filter, length, sum, take, drop, replicate, slice_get, slice_range, Some, refl, sym, ap, subst, add-one, append-nil, length-take, length-drop, arith}
use Rattle.std.specs.List.{enumerate_from}
use Rattle.std.proofs.lemmas.Bool.{lt-ltb, ne_eqb}
use Rattle.std.proofs.lemmas.List.{drop-drop, length-map}
use Rattle.std.proofs.lemmas.List.Sums.{sum_by-cons}
use Rattle.serde_json.specs.Data.{Data}
use Rattle.col_model.specs.ColumnType.{ColumnType}
use Rattle.col_model.specs.Dictionary.{cut}
use Rattle.col_model.specs.Index.{Shape}
use Rattle.col_model.specs.Positions.{rows_with_value, starts_of}
use Rattle.col_model.specs.Table.{Cell}
use Rattle.col_column.specs.Columns.{counts_by, rows_by}
use Rattle.col_index.proofs.RowsLaws.{rows_from, rows_with_value-from}
use Rattle.col_report.proofs.EndLemmas.{ends_from, Climb, ends-climb, row-step, ends-at}
use Rattle.col_program.proofs.ReportLaws.{Prints-then}
use Rattle.col_program.specs.Report.{lines_text, row_line, Prints}
use Rattle.col_print.specs.Puts.{SeenOut}
use Rattle.col_report.specs.Printed.{PutsLines, filled_lines}
use Rattle.col_report.proofs.PutLemmas.{puts-no_lines}

-- a line and those behind it
lines-more : (a b : List ℕ) (d : Data) (ds : List Data) → Prints a b (d ∷ []) → b ++ lines_text ds ≡ a ++ lines_text (d ∷ ds)
unfolding Prints
lines-more a b d ds first = Prints-then a b (b ++ lines_text ds) (d ∷ []) ds first refl

module _ {T : Type 0} (t : ColumnType) (cell : T → Cell) (xs : List T) where
  -- the lines of rows, the values of each from the end of the one before it on
  abbrev pub lines_by : List ℕ → ℕ → List ℕ → List Data
  lines_by [] start ends = []
  lines_by (row ∷ rows) start [] = []
  lines_by (row ∷ rows) start (e ∷ ends) = row_line t (row, map cell (slice_range xs start e)) ∷ lines_by rows e ends

  -- these are the lines of the rows that aren't empty
  lines-filled : (a start : ℕ) (cs : List ℕ) → start + sum cs ≤ length xs
      → filled_lines t (enumerate_from a (map (map cell) (cut cs (drop start xs)))) ≡ lines_by (rows_from a cs) start (ends_from start cs)
  unfolding filled_lines cut
  lines-filled a start [] h = refl
  lines-filled a start (zero ∷ cs) h =
      ap (λ b. filled_lines t (enumerate_from b (map (map cell) (cut cs (drop start xs))))) (add-one a)
      ∙ lines-filled (suc a) start cs (omega (arith, h, sum_by-cons (λ x. x) 0 cs))
  lines-filled a start (suc c ∷ cs) h =
      let whole = sum_by-cons (λ x. x) (suc c) cs in
      let row = map cell (take (suc c) (drop start xs)) in
      let later = filter (λ p. nat_lt 0 (length p.1)) (enumerate_from (a + 1) (map (map cell) (cut cs (drop (suc c) (drop start xs))))) in
      let size : suc c ≡ start + suc c - start = omega arith in
      let long : nat_lt 0 (length row) ≡ true =
      lt-ltb 0 (length row) (omega (
        arith,
        h,
        whole,
        length-map (take (suc c) (drop start xs)) cell,
        length-take (suc c) (drop start xs),
        length-drop start xs,
      )) in
      ap (λ b. map (row_line t) (cond b ((a, row) ∷ later) later)) long
      ∙ ap (λ n. row_line t (a, map cell (take n (drop start xs))) ∷ map (row_line t) later) size
      ∙ ap (λ ls. row_line t (a, map cell (slice_range xs start (start + suc c))) ∷ ls)
      (ap (λ ys. filled_lines t (enumerate_from (a + 1) (map (map cell) (cut cs ys)))) (drop-drop (suc c) start xs)
      ∙ ap (λ b. filled_lines t (enumerate_from b (map (map cell) (cut cs (drop (start + suc c) xs))))) (add-one a)
      ∙ lines-filled (suc a) (start + suc c) cs (omega (arith, h, whole)))
      ∙ ap (λ b. lines_by (cond (not b) (a ∷ rows_from (suc a) cs) (rows_from (suc a) cs)) start (ends_from start (suc c ∷ cs)))
      (sym (ne_eqb (suc c) 0 (λ e. omega arith)))

  -- all lines behind bytes
  abbrev pub all_behind : List ℕ → List ℕ → List ℕ
  all_behind cs a = a ++ lines_text (filled_lines t (enumerate_from 0 (map (map cell) (cut cs xs))))

  -- What is left where so many rows were printed, whose values end there: rows, ends that climb, and
  -- the text of their lines.
  pub record AreLeft (cs all bytes rows : List ℕ) (start place : ℕ) : Type 0 where
    pub rest : rows ≡ drop place (rows_with_value cs)
    pub few : place ≤ start
    pub climb : Climb start (drop place (ends_from 0 cs)) (length xs)
    pub text : bytes ++ lines_text (lines_by rows start (drop place (ends_from 0 cs))) ≡ all

  -- before the first row all is left
  pub left-all : (cs a rows : List ℕ) → sum cs ≡ length xs → rows ≡ rows_with_value cs → AreLeft cs (all_behind cs a) a rows 0 0
  left-all cs a rows counted are = record {
    rest = are;
    few = omega arith;
    climb = ends-climb 0 (length xs) cs (omega (arith, counted));
    text = ap (λ rows. a ++ lines_text (lines_by rows 0 (ends_from 0 cs))) (are ∙ rows_with_value-from cs)
        ∙ ap (λ ds. a ++ lines_text ds) (sym (lines-filled 0 0 cs (omega (arith, counted))));
  }

  -- what was printed and the lines that are left are all lines
  pub left-stopped : {cs b rows : List ℕ} {start place : ℕ} → AreLeft cs (all_behind cs []) b rows start place
      → Prints [] (b ++ lines_text (lines_by rows start (drop place (ends_from 0 cs))))
      (filled_lines t (enumerate_from 0 (map (map cell) (cut cs xs))))
  unfolding Prints
  left-stopped left = left.text

  -- where no row is left, all lines were printed
  pub left-no_row : (a : List ℕ) {cs b rows : List ℕ} {start place : ℕ} → rows ≡ [] → AreLeft cs (all_behind cs a) b rows start place
      → Prints a b (filled_lines t (enumerate_from 0 (map (map cell) (cut cs xs))))
  unfolding Prints
  left-no_row a {cs = cs} {b = b} {start = start} {place = place} none left =
      sym (append-nil b)
      ∙ ap (λ rows. b ++ lines_text (lines_by rows start (drop place (ends_from 0 cs)))) (sym none)
      ∙ left.text

  -- so were they where no value is left
  pub left-no_value : (a : List ℕ) {cs b rows : List ℕ} {start place : ℕ} → length xs ≤ start
      → AreLeft cs (all_behind cs a) b rows start place
      → Prints a b (filled_lines t (enumerate_from 0 (map (map cell) (cut cs xs))))
  unfolding Prints
  left-no_value a {cs = cs} {b = b} {rows = rows} {start = start} {place = place} past left =
      by rows (drop place (ends_from 0 cs)) left.climb left.text
    where
      by : (rows ends : List ℕ) → Climb start ends (length xs) → b ++ lines_text (lines_by rows start ends) ≡ all_behind cs a
          → b ≡ all_behind cs a
      by rows (e ∷ ends) climb text = absurd (omega (arith, past, climb.0, climb.1))
      by [] [] climb text = sym (append-nil b) ∙ text
      by (row ∷ rows) [] climb text = sym (append-nil b) ∙ text

  -- the row that is next
  module _ {cs all b rows later : List ℕ} {start place row : ℕ} (left : AreLeft cs all b rows start place) (next : rows ≡ row ∷ later) where
    step : (slice_get (rows_with_value cs) place ≡ Some row) × (later ≡ drop (place + 1) (rows_with_value cs))
    step = row-step (rows_with_value cs) place row later (sym left.rest ∙ next)

    -- it has the rank
    pub left-row : slice_get (rows_with_value cs) place ≡ Some row
    left-row = step.0

    module _ {end : ℕ} (ended : slice_get (starts_of cs) (place + 1) ≡ Some end) where
      here : Climb start (end ∷ drop (place + 1) (ends_from 0 cs)) (length xs)
      here = subst (λ ends. Climb start ends (length xs)) (ends-at cs place end ended) left.climb

      -- its values end behind their start, within all
      pub left-some : start < end
      left-some = here.0

      pub left-within : end ≤ length xs
      left-within = here.1

      -- behind it one line less is left
      pub left-less : {c : List ℕ} → Prints b c (row_line t (row, map cell (slice_range xs start end)) ∷ [])
          → AreLeft cs all c later end (place + 1)
      left-less {c = c} printed = record {
        rest = step.1;
        few = omega (arith, left.few, here.0);
        climb = here.2;
        text = lines-more b c _ (lines_by later end (drop (place + 1) (ends_from 0 cs))) printed
            ∙ ap (λ ends. b ++ lines_text (lines_by (row ∷ later) start ends)) (sym (ends-at cs place end ended))
            ∙ ap (λ rows. b ++ lines_text (lines_by rows start (drop place (ends_from 0 cs)))) (sym next)
            ∙ left.text;
      }

-- ---- the rows of a shape

module _ {T : Type 0} (t : ColumnType) (cell : T → Cell) (xs : List T) where
  -- what holds of the lines of rows by their counts holds of those of the shape with these counts
  pub lines-by_shape : (P : List Data → Type 0) (s : Shape) (cs : List ℕ) → counts_by s (length xs) ≡ cs
      → P (filled_lines t (enumerate_from 0 (map (map cell) (cut cs xs))))
      → P (filled_lines t (enumerate_from 0 (map (map cell) (rows_by s xs))))
  unfolding rows_by
  lines-by_shape P s cs are = subst (λ cs. P (filled_lines t (enumerate_from 0 (map (map cell) (cut cs xs))))) (sym are)

  -- rows without values have no lines
  lines-none : (a m : ℕ) → filled_lines t (enumerate_from a (map (map cell) (cut (replicate m 0) xs))) ≡ []
  unfolding filled_lines cut
  lines-none a zero = refl
  lines-none a (suc m) = lines-none (a + 1) m

  -- so nothing is put of them
  pub none-put : (m : ℕ) (a : SeenOut) → PutsLines a a (filled_lines t (enumerate_from 0 (map (map cell) (cut (replicate m 0) xs))))
  none-put m a = subst (PutsLines a a) (sym (lines-none 0 m)) (puts-no_lines a)
