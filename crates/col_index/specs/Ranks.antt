-- Rows as bits of words, with ranks.
use Rattle.std.specs.Prelude.{◌≡◌, ◌<◌, ℕ, ◌+◌, ◌*◌, ◌/◌, ◌%◌, ◌^◌, List, length, slice_index, sum, take, count_by, count_ones, nat_eq}
use Rattle.col_common.specs.Flags.{flag_at}
use Rattle.col_model.specs.Positions.{rank}
use Rattle.col_index.specs.Sets.{holds}

-- the bits that are set are those of the rows
abbrev pub HasFlags : List ℕ → List ℕ → Type 0
HasFlags rows words = (k : ℕ) → k < 64 * length words → flag_at words k ≡ holds rows k

-- a list of n numbers that a function gives
pub record IsTableOf (of : ℕ → ℕ) (n : ℕ) (xs : List ℕ) : Type 0 where
  pub long : length xs ≡ n
  pub each : (k : ℕ) → k < n → slice_index xs k ≡ of k

-- for n parts of m rows how many of the rows stand before each
abbrev pub AreCounts : List ℕ → ℕ → ℕ → List ℕ → Type 0
AreCounts rows m n before = IsTableOf (λ part. rank rows (m * part)) n before

-- the bits of rows as far as the words go, and how many are set before each word
pub record AreRanks (rows words before : List ℕ) : Type 0 where
  pub few : length rows < 2 ^ 32
  pub flags : HasFlags rows words
  pub counts : AreCounts rows 64 (length words) before

-- how many of the rows are in each part of m rows
abbrev pub ArePartCounts : List ℕ → ℕ → List ℕ → Type 0
ArePartCounts rows m counts = (part : ℕ) → part < length counts
    → slice_index counts part ≡ count_by (λ row. nat_eq (row / m) part) rows

-- the sum of the counts before each, and of all of them
abbrev pub AreSums : List ℕ → List ℕ → Type 0
AreSums counts before = IsTableOf (λ part. sum (take part counts)) (length counts + 1) before

-- how many of the rows below n stand before each part of 2 ^ shift rows, and before n
pub record AreBuckets (rows : List ℕ) (n shift : ℕ) (before : List ℕ) : Type 0 where
  pub short : shift < 32
  pub room : n / 2 ^ shift + 1 < length before
  pub counts : AreCounts rows (2 ^ shift) (length before) before

-- how many bits are set before row k: those before its word, and those below it in its word
abbrev pub ones_below : List ℕ → List ℕ → ℕ → ℕ
ones_below words before k =
    slice_index before (k / 64) + count_ones (slice_index words (k / 64) % 2 ^ (k % 64))
