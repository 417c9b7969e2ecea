-- Row counts that are added one after another.
use Rattle.std.proofs.Common.{◌≡◌, ℕ, ◌+◌, ◌≤◌, ◌<◌, ◌^◌, List, length, take, get_or, sum, nat_lt, None, sym, ap, arith}
use Rattle.std.proofs.lemmas.Bool.{le-ltb}
use Rattle.std.proofs.lemmas.List.Sums.{sum-map, sum_by_more, sum_by-take-le}
use Rattle.col_common.specs.Reading.{only_if}
use Rattle.col_file.specs.Readers.{SeenReader}
use Rattle.col_merge_plan.specs.Slots.{counts_read}

-- the rows of the first readers are some of all
rows-past : (rs : List SeenReader) (i : ℕ) (r : SeenReader) → i < length rs → r ≡ get_or rs i r
    → sum (counts_read (take i rs)) + r.keys.row_count ≤ sum (counts_read rs)
rows-past rs i r within is =
    let rows : SeenReader → ℕ = λ r. r.keys.row_count in
    let first = sum-map rows (take i rs) in
    let all = sum-map rows rs in
    let more = sum_by_more rows rs i r within in
    let few = sum_by-take-le rows rs (i + 1) in
    let here : r.keys.row_count ≡ (get_or rs i r).keys.row_count = ap rows is in
    omega (arith, first, all, more, few, here)

-- where those are too many, so are all
pub too-many : (rs : List SeenReader) (i : ℕ) (r : SeenReader) → i < length rs → r ≡ get_or rs i r
    → 2 ^ 32 ≤ sum (counts_read (take i rs)) + r.keys.row_count
    → None ≡ only_if (nat_lt (sum (counts_read rs)) (2 ^ 32)) (sum (counts_read rs))
too-many rs i r within is many =
    let past = rows-past rs i r within is in
    let all : 2 ^ 32 ≤ sum (counts_read rs) = omega (arith, past, many) in
    ap (λ b. only_if b (sum (counts_read rs))) (sym (le-ltb (sum (counts_read rs)) (2 ^ 32) all))
