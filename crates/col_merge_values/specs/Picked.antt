-- What a shuffle picks, in lists.
use Rattle.std.specs.Prelude.{◌≡◌, ℕ, List}
use Rattle.col_model.specs.Positions.{rows_with_value, starts_of, picked_counts}
use Rattle.col_merge_values.specs.Merges.{SegmentColumns, merged_values}

-- the picked rows that have values, where these start and the last end, and the values
pub record ArePicked {T : Type 0} (c : SegmentColumns T) (picks : List (ℕ × ℕ))
    (rows starts : List ℕ) (values : List T) : Type 0 where
  pub rows_are : rows ≡ rows_with_value (picked_counts c.shapes picks)
  pub starts_are : starts ≡ starts_of (picked_counts c.shapes picks)
  pub values_are : values ≡ merged_values c picks
