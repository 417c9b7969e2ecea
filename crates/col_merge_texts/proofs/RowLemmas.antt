-- The terms of a picked row, noted one after another.
use Rattle.std.proofs.Common.{◌≡◌, ℕ, ◌+◌, ◌<◌, true, List, [], ◌∷◌, length, drop, get_or, is_some, unwrap_or, Some, slice_get, refl, sym, ap, ◌∙◌, subst}
use Rattle.std.specs.List.{list_all}
use Rattle.std.proofs.lemmas.List.{drop_more}
use Rattle.std.proofs.lemmas.Option.{slice_get-get_or, slice_get_within}
use Rattle.col_common.specs.declared.error.ColumnarError.{ColumnarError}
use Rattle.col_model.specs.Order.{shuffle, has_row}
use Rattle.col_column.specs.Columns.{row_at, num_docs_in, rows_of_values}
use Rattle.col_numbers.specs.NumValues.{num_values_of}
use Rattle.col_text.specs.Texts.{Texts}
use Rattle.col_merge_texts.specs.Items.{terms_of, item_at, IsAmong}
use Rattle.col_merge_texts.proofs.AmongLemmas.{all-in}
use Rattle.col_merge_values.specs.Merges.{picked_row}
use Rattle.col_merge_values.specs.TermColumns.{term_columns}
use Rattle.col_merge_texts.specs.Noting.{Noted, HasIdIf, Notes, IsNoteRefusal}
use Rattle.col_merge_texts.specs.Taking.{IsPicked, IsAhead, AreNoted, TakesRow, IsTakeRefusal}
use Rattle.col_merge_texts.proofs.NoteLemmas.{noted-more, noted-less, noted-held, noted-within}
use Rattle.col_merge_texts.proofs.TakeLemmas.{place-at, place-below}
use Rattle.col_merge_texts.proofs.PickLemmas.{row_counts_of, named-row, row-segment, row-within, picked-is, ahead-start, ahead-more, ahead-end}
use Rattle.col_merge_texts.proofs.KnownLemmas.{get-in}
use Rattle.col_merge_texts.proofs.TermLemmas.{take-refused}

-- ---- the row

module _ (columns : List Texts) (counts : List ℕ) (rows : List (ℕ × ℕ)) (i : ℕ) (a : ℕ × ℕ)
    (fit : row_counts_of columns ≡ counts) (all : list_all (has_row counts) rows ≡ true)
    (e : slice_get rows i ≡ Some a) where
  -- its segment has a column
  pub segment-there : a.0 < length columns
  segment-there = row-segment columns a (named-row columns counts rows i a fit all e)

  -- the column of a row's segment is there
  pub column-there : (c : Texts) → c ≡ get_or columns a.0 c → slice_get columns a.0 ≡ Some c
  column-there c is = slice_get-get_or columns a.0 c segment-there ∙ ap Some (sym is)

  -- which has the row
  pub row-there : (c : Texts) → c ≡ get_or columns a.0 c → a.1 < num_docs_in num_values_of c.ords
  row-there c is = row-within columns a c (column-there c is) (named-row columns counts rows i a fit all e)

-- the row's ordinals are those that are picked
pub row-held : (columns : List Texts) (a : ℕ × ℕ) (c : Texts) (ords : List ℕ) → slice_get columns a.0 ≡ Some c
    → ords ≡ row_at (rows_of_values num_values_of c.ords) a.1 → ords ≡ picked_row (term_columns columns) a
row-held columns a c ords f is = is ∙ sym (picked-is columns a.0 a.1 c f)

-- what is left from an item on
drop-from : {X : Type 0} (xs : List X) (i : ℕ) (x : X) → slice_get xs i ≡ Some x → drop i xs ≡ x ∷ drop (i + 1) xs
drop-from xs i x e =
    let low = slice_get_within xs i x e in
    drop_more xs i x low ∙ ap (λ o. unwrap_or o x ∷ drop (i + 1) xs) (sym (slice_get-get_or xs i x low) ∙ e)

-- at first all of its ordinals are left
pub row-start :
    (columns : List Texts) (rows : List (ℕ × ℕ)) (i : ℕ) (a : ℕ × ℕ) (c : Texts) (ords : List ℕ) (n : Noted)
    → slice_get rows i ≡ Some a → slice_get columns a.0 ≡ Some c → ords ≡ row_at (rows_of_values num_values_of c.ords) a.1
    → AreNoted columns (IsPicked columns rows) (IsPicked columns (drop i rows)) n
    → TakesRow columns rows (drop (i + 1) rows) a.0 ords n
row-start columns rows i a c ords n e f is h =
    let later = drop (i + 1) rows in
    let same = sym (row-held columns a c ords f is) in
    record {
      noted = noted-less columns (IsPicked columns rows) (IsPicked columns (drop i rows)) (IsAhead columns a.0 ords later) n h
          (λ q w left. subst (λ os. IsAhead columns a.0 os later q) same
          (ahead-start columns a later q (subst (λ rs. IsPicked columns rs q) (drop-from rows i a e) left)));
      held = all-in (λ o. IsPicked columns rows (a.0, o)) ords
          (λ o there. record { row = a; named = get-in rows i a e; segment = refl; held = subst (IsAmong o) (sym same) there });
    }

-- ---- its next term

module _ {columns : List Texts} {rows later : List (ℕ × ℕ)} {segment o : ℕ} {ords next : List ℕ} {c : Texts}
    {n : Noted} (e : slice_get columns segment ≡ Some c) (steps : ords ≡ o ∷ next) (h : TakesRow columns rows later
    segment ords n) where
  abbrev term : List ℕ
  term = unwrap_or (slice_get c.terms o) []

  stands : TakesRow columns rows later segment (o ∷ next) n
  stands = subst (λ os. TakesRow columns rows later segment os n) steps h

  next-picked : IsPicked columns rows (segment, o)
  next-picked = stands.held.0

  -- the next ordinal of a row is that of one of the column's terms
  pub next-below : o < length c.terms
  next-below = place-below columns segment o c e (h.noted.whole (segment, o) next-picked)

  next-is : item_at (terms_of columns) (segment, o) ≡ Some term
  next-is = place-at columns segment o c e next-below

  -- it may be noted
  pub next-within : is_some (item_at n.ids (segment, o)) ≡ true
  next-within = noted-within columns (IsPicked columns rows) (IsAhead columns segment ords later) n (segment, o) term h.noted next-is

  -- where the place of the next ordinal has an id, it is that of its term
  pub next-held : HasIdIf n (segment, o) term
  next-held = noted-held columns (IsPicked columns rows) (IsAhead columns segment ords later) n (segment, o) term h.noted next-is

  -- when it was noted, the next one is left
  pub next-more : (m : Noted) → Notes (segment, o) term n m → TakesRow columns rows later segment next m
  next-more m notes = record {
    noted =
        noted-more columns (IsPicked columns rows) (IsAhead columns segment (o ∷ next) later)
        (IsAhead columns segment next later) n m (segment, o) term stands.noted next-picked next-is notes
        (λ q w left. ahead-more columns segment o next later q left);
    held = stands.held.1;
  }

  -- a refusal to note the term is one to take the texts
  pub next-refused : (counts : List ℕ) (x : ColumnarError) → IsNoteRefusal n.terms term x → IsTakeRefusal columns (shuffle counts rows) x
  next-refused counts x r =
      take-refused columns (shuffle counts rows) (IsAhead columns segment ords later) n (segment, o) term x h.noted
      next-picked next-is r

-- ---- its end

-- where no ordinal of a row is left, the rows behind it are
pub row-end : (columns : List Texts) (rows later : List (ℕ × ℕ)) (segment : ℕ) (ords : List ℕ) (n : Noted)
    → ords ≡ [] → TakesRow columns rows later segment ords n
    → AreNoted columns (IsPicked columns rows) (IsPicked columns later) n
row-end columns rows later segment ords n none h =
    noted-less columns (IsPicked columns rows) (IsAhead columns segment ords later) (IsPicked columns later) n h.noted
    (λ q w left. ahead-end columns segment later q (subst (λ os. IsAhead columns segment os later q) none left))
