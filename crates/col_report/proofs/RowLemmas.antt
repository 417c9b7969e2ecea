-- The lines of rows, printed one after another.
use Rattle.std.proofs.Common.{◌≡◌, ◌∙◌, ℕ, ◌+◌, ◌<◌, ◌≤◌, true, List, [], ◌∷◌, ◌++◌, map, length, take, slice_get, slice_range, decimal, drop, ◌-◌, Some, codes, refl, sym, ap, subst, arith, append-nil, append_assoc}
use Rattle.json.specs.Print.{escape_byte}
use Rattle.serde_json.specs.Data.{Data, string}
use Rattle.serde_json.specs.Written.{compact_text, items_text}
use Rattle.serde_json.specs.View.{items_of}
use Rattle.col_model.specs.ColumnType.{ColumnType}
use Rattle.col_program.specs.Report.{lines_text, row_line, count_data, list_data, cell_data, Prints}
use Rattle.col_model.specs.Table.{Cell}
use Rattle.col_column.proofs.FirstLemmas.{range_step}
use Rattle.col_report.specs.Printed.{Spells, more_text}

-- ---- the line of a row

-- the values of an array behind its first, with the closing bracket
pub items-more : (ds : List Data) → items_text true (items_of ds) ≡ more_text ds ++ 93 ∷ []
unfolding more_text
items-more [] = refl
items-more (d ∷ ds) =
    ap (λ s. 44 ∷ (compact_text d ++ s)) (items-more ds)
    ∙ ap (λ s. 44 ∷ s) (sym (append_assoc (compact_text d) (more_text ds) (93 ∷ [])))

regroup : (m c i : List ℕ)
    → ((m ++ 44 ∷ 91 ∷ ((c ++ (i ++ 93 ∷ [])) ++ 93 ∷ [])) ++ 10 ∷ []) ++ []
    ≡ m ++ 44 ∷ 91 ∷ (c ++ (i ++ 93 ∷ 93 ∷ 10 ∷ []))
regroup m c i = simp (append_assoc, append-nil)

row-text : (n : ℕ) (d : Data) (ds : List Data)
    → lines_text (list_data (string (codes "row") ∷ count_data n ∷ list_data (d ∷ ds) ∷ []) ∷ [])
    ≡ codes "[\"row\"," ++ (decimal n ++ (codes ",[" ++ (compact_text d ++ (more_text ds ++ codes "]]\n"))))
unfolding escape_byte
row-text n d ds = rw (items-more ds) (ap (λ s. codes "[\"row\"," ++ s) (regroup (decimal n) (compact_text d) (more_text ds)))

pub row-printed : (a b c e f g h : List ℕ) (t : ColumnType) (n : ℕ) (v : Cell) (vs : List Cell)
    → b ≡ a ++ codes "[\"row\"," → c ≡ b ++ decimal n → e ≡ c ++ codes ",[" → Spells e f (cell_data t v)
    → g ≡ f ++ more_text (map (cell_data t) vs) → h ≡ g ++ codes "]]\n" → Prints a h (row_line t (n, v ∷ vs) ∷ [])
unfolding Prints Spells
row-printed a b c e f g h t n v vs one two three four five six =
    let all : h ≡ a ++ (codes "[\"row\","
    ++
    (decimal n ++ (codes ",[" ++ (compact_text (cell_data t v) ++ (more_text (map (cell_data t) vs) ++ codes "]]\n")))))
    = rw (six, five, four, three, two, one) (simp append_assoc) in
    all ∙ ap (λ s. a ++ s) (sym (row-text n (cell_data t v) (map (cell_data t) vs)))

-- one more value of a row
pub more-value : (a b c r : List ℕ) (d : Data) (ds : List Data) → a ++ more_text (d ∷ ds) ≡ r → b ≡ a ++ 44 ∷ []
    → Spells b c d → c ++ more_text ds ≡ r
unfolding Spells more_text
more-value a b c r d ds left comma spelled =
    let same : c ++ more_text ds ≡ a ++ 44 ∷ (compact_text d ++ more_text ds) = rw (spelled, comma) (simp append_assoc) in
    same ∙ left

-- where no value is left, all were spelled
pub more-none : (a r : List ℕ) (ds : List Data) → a ++ more_text ds ≡ r → ds ≡ [] → a ≡ r
unfolding more_text
more-none a r ds left none = sym (append-nil a) ∙ ap (λ ds. a ++ more_text ds) (sym none) ∙ left

module _ {T : Type 0} (t : ColumnType) (cell : T → Cell) (xs : List T) where
  -- the text of the values from one position up to another, with commas in front
  abbrev others : ℕ → ℕ → List ℕ
  others at upto = more_text (map (cell_data t) (map cell (slice_range xs at upto)))

  -- the next value with a comma in front is one less that is left
  pub others-more : (a b c r : List ℕ) (at upto : ℕ) (v : T) → slice_get xs at ≡ Some v → at < upto
      → upto ≤ length xs → a ++ others at upto ≡ r → b ≡ a ++ 44 ∷ [] → Spells b c (cell_data t (cell v))
      → c ++ others (at + 1) upto ≡ r
  others-more a b c r at upto v value before within left comma spelled =
      let step = range_step xs at upto v value before within in
      let now = ap (λ ys. a ++ more_text (map (cell_data t) (map cell ys))) (sym step) ∙ left in
      more-value a b c r (cell_data t (cell v)) (map (cell_data t) (map cell (slice_range xs (at + 1) upto))) now comma spelled

  -- where no position is left, all values were spelled
  pub others-none : (a r : List ℕ) (at upto : ℕ) → upto ≤ at → a ++ others at upto ≡ r → a ≡ r
  others-none a r at upto past left =
      let none : upto - at ≡ 0 = omega arith in
      more-none a r _ left (ap (λ n. map (cell_data t) (map cell (take n (drop at xs)))) none)

  -- the line of the row that the values at these positions are
  pub filled-row : (a b c e f g h : List ℕ) (n at upto : ℕ) (v : T) → slice_get xs at ≡ Some v → at < upto
      → upto ≤ length xs → b ≡ a ++ codes "[\"row\"," → c ≡ b ++ decimal n → e ≡ c ++ codes ",["
      → Spells e f (cell_data t (cell v)) → g ≡ f ++ others (at + 1) upto → h ≡ g ++ codes "]]\n"
      → Prints a h (row_line t (n, map cell (slice_range xs at upto)) ∷ [])
  filled-row a b c e f g h n at upto v value before within one two three four five six =
      let step = range_step xs at upto v value before within in
      subst (λ ys. Prints a h (row_line t (n, map cell ys) ∷ [])) (sym step) (row-printed a b c e f g h t n (cell v)
      (map cell (slice_range xs (at + 1) upto)) one two three four five six)
