-- The terms of a whole column, noted one by one.
use Rattle.std.proofs.Common.{◌≡◌, ℕ, ◌+◌, ◌<◌, List, [], length, true, ap, is_some, slice_get, unwrap_or, Some}
use Rattle.col_common.specs.declared.error.ColumnarError.{ColumnarError}
use Rattle.col_model.specs.Order.{stack}
use Rattle.col_text.specs.Texts.{Texts}
use Rattle.col_merge_texts.specs.Items.{terms_of, item_at}
use Rattle.col_merge_texts.specs.Noting.{Noted, HasIdIf, Notes, IsNoteRefusal}
use Rattle.col_merge_texts.specs.Taking.{IsPlace, IsFrom, AreNoted, IsTakeRefusal}
use Rattle.col_merge_texts.proofs.NoteLemmas.{noted-more, noted-held, noted-within}
use Rattle.col_merge_texts.proofs.TakeLemmas.{place-at, from-more}
use Rattle.col_merge_texts.proofs.TermLemmas.{take-refused}

module _ (columns : List Texts) (segment ord : ℕ) (c : Texts) (there : slice_get columns segment ≡ Some c)
    (low : ord < length c.terms) (n : Noted) (h : AreNoted columns (IsPlace columns) (IsFrom segment ord) n) where
  abbrev t : List ℕ
  t = unwrap_or (slice_get c.terms ord) []

  is : item_at (terms_of columns) (segment, ord) ≡ Some t
  is = place-at columns segment ord c there low

  -- the next term has its place among the ids
  pub term-within : is_some (item_at n.ids (segment, ord)) ≡ true
  term-within = noted-within columns (IsPlace columns) (IsFrom segment ord) n (segment, ord) t h is

  -- where its place has an id, that is the term's
  pub term-held : HasIdIf n (segment, ord) (unwrap_or (slice_get c.terms ord) [])
  term-held = noted-held columns (IsPlace columns) (IsFrom segment ord) n (segment, ord) t h is

  -- where it isn't noted, the terms are refused
  pub term-refused : (e : ColumnarError) → IsNoteRefusal n.terms (unwrap_or (slice_get c.terms ord) []) e
      → IsTakeRefusal columns (stack []) e
  term-refused e r = take-refused columns (stack []) (IsFrom segment ord) n (segment, ord) t e h (ap is_some is) is r

  -- where it is noted, the terms behind it are left
  pub term-noted : (m : Noted) → Notes (segment, ord) (unwrap_or (slice_get c.terms ord) []) n m
      → AreNoted columns (IsPlace columns) (IsFrom segment (ord + 1)) m
  term-noted m notes =
      noted-more columns (IsPlace columns) (IsFrom segment ord) (IsFrom segment (ord + 1)) n m (segment, ord) t h
      (ap is_some is) is notes (λ q w left. from-more segment ord q left)
