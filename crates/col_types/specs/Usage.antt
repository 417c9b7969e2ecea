-- How many bytes a column takes.
use Rattle.std.specs.Prelude.{ℕ, ◌+◌, ◌-◌, ◌^◌, min, Option, Some, None, unwrap_or}

-- the bytes of the column, and of its dictionary where it has one
pub record Usage : Type 0 where
  pub column : ℕ
  pub dictionary : Option ℕ

-- the sum of two counts, or the greatest count where it is past that
abbrev pub count_sum : ℕ → ℕ → ℕ
count_sum a b = min (a + b) (2 ^ 64 - 1)

-- the sum of the counts that there are; none where there is none
abbrev pub present_sum : Option ℕ → Option ℕ → Option ℕ
present_sum None None = None
present_sum None (Some b) = Some b
present_sum (Some a) None = Some a
present_sum (Some a) (Some b) = Some (count_sum a b)

-- all bytes
abbrev pub total : Usage → ℕ
total u = count_sum u.column (unwrap_or u.dictionary 0)

-- the bytes of two columns, part by part
abbrev pub joined : Usage → Usage → Usage
joined u v = record {
  column = count_sum u.column v.column;
  dictionary = present_sum u.dictionary v.dictionary;
}
