-- Items that are appended to a list as far as memory reaches.
use Rattle.std.proofs.Common.{◌≡◌, ℕ, ◌+◌, ◌-◌, ◌<◌, ◌≤◌, cond, true, List, [], ◌∷◌, ◌++◌, length, map, flat_map, take, get_or, Result, Ok, Err, IsErrAnd, sym, ap, ◌∙◌, append_assoc, append-nil, arith}
use Rattle.std.proofs.lemmas.List.{map-append, take_more, flat_map_more}
use Rattle.std.proofs.lemmas.List.Elements.{filter-append}
use Rattle.std.specs.declared.alloc.AllocError.{AllocError}
use Rattle.col_model.specs.Index.{multivalued_shape}
use Rattle.col_model.specs.Positions.{rank, values_in}
use Rattle.col_index.specs.Offsets.{run, found_rows, positions_of, positions_of_rows, row_positions}
use Rattle.col_index.specs.Appending.{BeginsWith, PushesBoth}
use Rattle.col_index.specs.Sets.{holds, held, held_ranks}
use Rattle.col_index.proofs.ValueLemmas.{run-more}

-- ---- what a refusal leaves

-- the list as it was
pub begins-same : (new found front more : List ℕ) → new ≡ found → found ≡ front ++ more → BeginsWith new front
begins-same new found front more n e = (more, n ∙ e)

-- and with items behind it
pub begins-more : (new found front more later : List ℕ) → new ≡ found ++ later → found ≡ front ++ more → BeginsWith new front
begins-more new found front more later n e = (more ++ later, n ∙ ap (λ xs. xs ++ later) e ∙ append_assoc front more later)

-- want of memory
pub pushes-stopped : {docs_old docs_new rows_old rows_new docs rows : List ℕ} (Q : AllocError → Type 0)
    (r : Result (Unit {0}) AllocError) → IsErrAnd r Q → BeginsWith docs_new docs_old → BeginsWith rows_new rows_old
    → PushesBoth docs_old docs_new rows_old rows_new r docs rows
pushes-stopped Q (Ok v) h p q = absurd h
pushes-stopped Q (Err e) h p q = record { docs = tt; rows = tt; err = (p, q) }

-- a list that begins with another begins with each front of this
begins_later : (new found front more : List ℕ) → found ≡ front ++ more → BeginsWith new found → BeginsWith new front
begins_later new found front more e b = (more ++ b.0, b.1 ∙ ap (λ xs. xs ++ b.0) e ∙ append_assoc front more b.0)

-- want of memory in a later call
pub pushes-stopped_later : {docs_old docs_found docs_new rows_old rows_found rows_new docs rows : List ℕ}
    {r : Result (Unit {0}) AllocError} (docs_more rows_more : List ℕ) (Q : AllocError → Type 0) → IsErrAnd r Q
    → docs_found ≡ docs_old ++ docs_more → rows_found ≡ rows_old ++ rows_more
    → BeginsWith docs_new docs_found × BeginsWith rows_new rows_found
    → PushesBoth docs_old docs_new rows_old rows_new r docs rows
pushes-stopped_later {r = r} docs_more rows_more Q h d e b =
    pushes-stopped Q r h (begins_later _ _ _ docs_more d b.0) (begins_later _ _ _ rows_more e b.1)

-- what a later call appends
pub pushes-later : {docs_old docs_found docs_new rows_old rows_found rows_new docs rows docs_all rows_all : List ℕ}
    (docs_more rows_more : List ℕ) (r : Result (Unit {0}) AllocError)
    → PushesBoth docs_found docs_new rows_found rows_new r docs rows
    → docs_found ≡ docs_old ++ docs_more → rows_found ≡ rows_old ++ rows_more
    → (docs_new ≡ docs_found ++ docs → docs_new ≡ docs_old ++ docs_all)
    → (rows_new ≡ rows_found ++ rows → rows_new ≡ rows_old ++ rows_all)
    → PushesBoth docs_old docs_new rows_old rows_new r docs_all rows_all
pushes-later docs_more rows_more (Ok v) p d e f g = record { docs = f p.docs; rows = g p.rows; err = tt }
pushes-later docs_more rows_more (Err e) p d q f g = record {
  docs = tt;
  rows = tt;
  err = (begins_later _ _ _ docs_more d p.err.0, begins_later _ _ _ rows_more q p.err.1);
}

-- ---- a run, one position after another

module _ (front found new : List ℕ) (doc start position : ℕ) (h : start ≤ position) where
  one_more : run doc start (position + 1 - start) ≡ run doc start (position - start) ++ (doc, position) ∷ []
  one_more = ap (run doc start) up ∙ run-more doc start (position - start) position (omega arith)
    where
      up : position + 1 - start ≡ position - start + 1
      up = omega arith

  -- the row once more
  pub docs-more : found ≡ front ++ found_rows (run doc start (position - start)) → new ≡ found ++ doc ∷ []
      → new ≡ front ++ found_rows (run doc start (position + 1 - start))
  docs-more e n =
      n ∙ ap (λ xs. xs ++ doc ∷ []) e ∙ append_assoc front (found_rows (run doc start (position - start))) (doc ∷ [])
      ∙ ap (λ xs. front ++ xs) (sym (ap found_rows one_more
      ∙ map-append (λ (p : ℕ × ℕ). p.0) (run doc start (position - start)) ((doc, position) ∷ [])))

  -- the next position
  pub positions-more : found ≡ front ++ positions_of (run doc start (position - start))
      → new ≡ found ++ position ∷ [] → new ≡ front ++ positions_of (run doc start (position + 1 - start))
  positions-more e n =
      n ∙ ap (λ xs. xs ++ position ∷ []) e ∙ append_assoc front (positions_of (run doc start (position - start))) (position ∷ [])
      ∙ ap (λ xs. front ++ xs) (sym (ap positions_of one_more
      ∙ map-append (λ (p : ℕ × ℕ). p.1) (run doc start (position - start)) ((doc, position) ∷ [])))

-- ---- the values of rows, one row after another

-- one row more
visited-more : (counts docs : List ℕ) (i : ℕ) → i < length docs
    → row_positions counts (take (i + 1) docs)
    ≡ row_positions counts (take i docs) ++ values_in (multivalued_shape counts) (get_or docs i 0)
unfolding positions_of_rows
visited-more counts docs i h =
    ap (flat_map (values_in (multivalued_shape counts))) (take_more docs i 0 h)
    ∙ sym (flat_map_more (values_in (multivalued_shape counts)) [] (take i docs) (get_or docs i 0))

-- of each value one part, its row or its position
pub visited : (part : ℕ × ℕ → ℕ) (counts docs front found new : List ℕ) (i : ℕ) → i < length docs
    → found ≡ front ++ map part (row_positions counts (take i docs))
    → new ≡ found ++ map part (values_in (multivalued_shape counts) (get_or docs i 0))
    → new ≡ front ++ map part (row_positions counts (take (i + 1) docs))
visited part counts docs front found new i h e n =
    n ∙ ap (λ xs. xs ++ map part (values_in (multivalued_shape counts) (get_or docs i 0))) e
    ∙ append_assoc front (map part (row_positions counts (take i docs))) (map part (values_in (multivalued_shape counts) (get_or docs i 0)))
    ∙ ap (λ xs. front ++ xs) (sym (ap (map part) (visited-more counts docs i h)
    ∙ map-append part (row_positions counts (take i docs))
    (values_in (multivalued_shape counts) (get_or docs i 0))))

-- a row without values
pub visited-free : (part : ℕ × ℕ → ℕ) (counts docs front found : List ℕ) (i : ℕ) → i < length docs
    → values_in (multivalued_shape counts) (get_or docs i 0) ≡ []
    → found ≡ front ++ map part (row_positions counts (take i docs))
    → found ≡ front ++ map part (row_positions counts (take (i + 1) docs))
visited-free part counts docs front found i h none e =
    visited part counts docs front found found i h e (sym (ap (λ vs. found ++ map part vs) none ∙ append-nil found))

-- the first row
pub visited-none : (part : ℕ × ℕ → ℕ) (counts front : List ℕ) → front ≡ front ++ map part (row_positions counts [])
unfolding positions_of_rows
visited-none part counts front = sym (append-nil front)

-- ---- the rows that are in, one after another

module _ (rows docs : List ℕ) (i : ℕ) (h : i < length docs) (e : holds rows (get_or docs i 0) ≡ true) where
  held_more : held rows (take (i + 1) docs) ≡ held rows (take i docs) ++ get_or docs i 0 ∷ []
  held_more =
      ap (held rows) (take_more docs i 0 h)
      ∙ filter-append (holds rows) (take i docs) (get_or docs i 0 ∷ [])
      ∙ ap (λ b. held rows (take i docs) ++ cond b (get_or docs i 0 ∷ []) []) e

  -- a row that is in
  pub held-pushed : (front found new : List ℕ) → found ≡ front ++ held rows (take i docs)
      → new ≡ found ++ get_or docs i 0 ∷ [] → new ≡ front ++ held rows (take (i + 1) docs)
  held-pushed front found new f n =
      n ∙ ap (λ xs. xs ++ get_or docs i 0 ∷ []) f ∙ append_assoc front (held rows (take i docs)) (get_or docs i 0 ∷ [])
      ∙ ap (λ xs. front ++ xs) (sym held_more)

  -- and its rank
  pub rank-pushed : (front found new : List ℕ) (at : ℕ) → at ≡ rank rows (get_or docs i 0)
      → found ≡ front ++ held_ranks rows (take i docs) → new ≡ found ++ at ∷ []
      → new ≡ front ++ held_ranks rows (take (i + 1) docs)
  rank-pushed front found new at r f n =
      n ∙ ap (λ xs. xs ++ at ∷ []) f ∙ append_assoc front (held_ranks rows (take i docs)) (at ∷ [])
      ∙ ap (λ k. front ++ (held_ranks rows (take i docs) ++ k ∷ [])) r
      ∙ ap (λ xs. front ++ xs) (sym (ap (map (rank rows)) held_more
      ∙ map-append (rank rows) (held rows (take i docs)) (get_or docs i 0 ∷ [])))
