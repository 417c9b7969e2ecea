-- A list of positions whose front is overwritten by the rows that have them.
use Rattle.std.proofs.Common.{◌≡◌, ℕ, ◌+◌, ◌<◌, ◌≤◌, true, sum, List, [], ◌∷◌, ◌++◌, length, take, drop, set, get_or, refl, sym, ap, ◌∙◌, arith}
use Rattle.std.proofs.lemmas.List.{drop-set-lt, drop-drop, take_more_set, get_or-drop, take_all, length-set}
use Rattle.col_common.specs.Ascending.{is_rising, AreBelow}
use Rattle.col_model.specs.Index.{RowOffsets, offset_counts}
use Rattle.col_model.specs.Positions.{rows_at}
use Rattle.col_index.specs.Offsets.{AreOffsets}
use Rattle.col_index.proofs.RankLaws.{below_at}

-- a position among rising ones that all have rows
pub record IsPosition (o : RowOffsets) (ps : List ℕ) (at : ℕ) : Type 0 where
  pub offsets : AreOffsets o
  pub rising : is_rising ps ≡ true
  pub within : at < length ps
  pub below : AreBelow (sum (offset_counts o)) ps

pub is_position : (o : RowOffsets) (ps : List ℕ) (at : ℕ) → AreOffsets o → is_rising ps ≡ true → at < length ps
    → AreBelow (sum (offset_counts o)) ps → IsPosition o ps at
is_position o ps at a e within below = record { offsets = a; rising = e; within = within; below = below }

-- it has a row
pub position-below : (o : RowOffsets) (ps : List ℕ) (at : ℕ) → IsPosition o ps at → get_or ps at 0 < sum (offset_counts o)
position-below o ps at here = below_at (sum (offset_counts o)) ps at here.below here.within

-- the rows of the positions before a place stand in front, and from there on the positions still stand
pub record IsSelected (counts ps xs : List ℕ) (kept at : ℕ) : Type 0 where
  pub long : length xs ≡ length ps
  pub few : kept ≤ at
  pub found : take kept xs ≡ rows_at counts (take at ps)
  pub ahead : drop at xs ≡ drop at ps

module _ (counts ps : List ℕ) where
  -- before the first position
  pub selected-none : rows_at counts [] ≡ [] → IsSelected counts ps ps 0 0
  selected-none e = record { long = refl; few = omega arith; found = sym e; ahead = refl }

  module _ (xs : List ℕ) (kept at : ℕ) (s : IsSelected counts ps xs kept at) where
    -- the next position
    pub selected-read : get_or xs at 0 ≡ get_or ps at 0
    selected-read =
        let here : at + 0 ≡ at = omega arith in
        sym (get_or-drop at xs 0 0 ∙ ap (λ n. get_or xs n 0) here) ∙ ap (λ ys. get_or ys 0 0) s.ahead
        ∙ get_or-drop at ps 0 0 ∙ ap (λ n. get_or ps n 0) here

    further : drop (at + 1) xs ≡ drop (at + 1) ps
    further = sym (drop-drop 1 at xs) ∙ ap (drop 1) s.ahead ∙ drop-drop 1 at ps

    -- a position in the row of the one before
    pub selected-same : rows_at counts (take (at + 1) ps) ≡ rows_at counts (take at ps) → IsSelected counts ps xs kept (at + 1)
    selected-same e = record { long = s.long; few = omega (arith, s.few); found = s.found ∙ sym e; ahead = further }

    -- a position in another row
    pub selected-next : (row : ℕ) → at < length xs
        → rows_at counts (take (at + 1) ps) ≡ rows_at counts (take at ps) ++ row ∷ []
        → IsSelected counts ps (set xs kept row) (kept + 1) (at + 1)
    selected-next row h e = record {
      long = length-set xs kept row ∙ s.long;
      few = omega (arith, s.few);
      found = take_more_set xs kept row (omega (arith, s.few)) ∙ ap (λ ys. ys ++ row ∷ []) s.found ∙ sym e;
      ahead = drop-set-lt (at + 1) xs kept row (omega (arith, s.few)) ∙ further;
    }

    -- behind the last position
    pub selected-all : length xs ≤ at → take kept xs ≡ rows_at counts ps
    selected-all h = s.found ∙ ap (rows_at counts) (take_all at ps (omega (arith, s.long)))
