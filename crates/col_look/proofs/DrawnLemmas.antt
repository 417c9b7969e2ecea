-- Bars of the numbers of columns.
use Rattle.std.proofs.Common.{◌≡◌, ℕ, ℤ, zero, suc, pos, ◌-◌, ◌/◌, ◌<◌, ◌==◌, ◌+ℤ◌, true, List, [], ◌∷◌, map, length, get_or, Bool, Option, Some, None, option_map, IfOk, refl, sym, ◌∙◌, ap, subst, arith}
use Rattle.std.specs.Prelude.{Result, Vec}
use Rattle.std.specs.List.{All, AllByRecursion, count_by}
use Rattle.std.specs.declared.alloc.AllocError.{AllocError}
use Rattle.std.specs.declared.alloc.Global.{Global}
use Rattle.std.specs.declared.cmp.Ordering.{Ordering}
use Rattle.std.proofs.lemmas.Nat.{div_below}
use Rattle.std.proofs.lemmas.Option.{same_Some}
use Rattle.std.proofs.lemmas.Result.{IfOk-weaker}
use Rattle.col_model.specs.ColumnType as types
use Rattle.col_model.specs.Facets.{cell_order}
use Rattle.col_model.specs.Index.{Shape}
use Rattle.col_model.specs.Table.{Cell, number, text}
use Rattle.col_model.proofs.ListLaws.{map-map}
use Rattle.col_model.proofs.StatsLaws.{all_by}
use Rattle.col_column.specs.Columns.{IsCounted, content_seen}
use Rattle.col_dynamic.specs.Dynamic.{type_of, content_of, dynamic_shape, value_count}
use Rattle.col_dynamic.specs.declared.dynamic_column.DynamicColumn.{DynamicColumn}
use Rattle.col_values.specs.Bounds.{AreExact}
use Rattle.col_values.specs.Monotonic.{Passes}
use Rattle.col_values.specs.Values.{IsAtMost}
use Rattle.col_facet.specs.Cells.{cell_cmp, num_in, kind_place}
use Rattle.col_facet.specs.Facets.{facet_cell}
use Rattle.col_facet.specs.Tables.{HasPlaces}
use Rattle.col_facet.specs.declared.facet_cell.FacetCell.TheVariants.{Num, Term}
use Rattle.col_facet.proofs.CellLemmas.{cells-keep}
use Rattle.col_look.specs.Bars.{bar_width, bar_ranges, bars_between, bars_of, bar_total, has_bars}
use Rattle.col_look.specs.BarsAt.{bar_at, bars_from}
use Rattle.col_look.specs.Ends.{first_by, cells_of, least_cell, greatest_cell}
use Rattle.col_look.specs.FacetEnds.{ends_of}
use Rattle.col_look.specs.Places.{place_of, IsAtPlace}
use Rattle.col_look.specs.declared.bar.Bar.{Bar}
use Rattle.col_look.proofs.BarLemmas.{IsAbove, bars-are, bars-total, all-first}
use Rattle.col_look.proofs.EndLemmas.{number-ends, are-above, nothing-above}
use Rattle.col_look.proofs.FirstLemmas.{first-map}
use Rattle.col_look.proofs.PlaceLemmas.{quotients-rise}
use Rattle.col_look.proofs.SeenLemmas.{cells-seen, count-is}

-- a cell that facets have as a number is the number
unfaceted : (o : Option Cell) (z : ℤ) → option_map (facet_cell types.i64) o ≡ Some (Num z) → o ≡ Some (number z)
unfaceted None z e = cc
unfaceted (Some (number y)) z e = ap (λ v. Some (number v)) (ap num_in (same_Some (Num y) (Num z) e))
unfaceted (Some (text t)) z e =
    let kinds : 2 ≡ 0 = ap kind_place (same_Some (Term t) (Num z) e) in absurd (omega (arith, kinds))

-- numbers that are the ends of cells of facets are the least and the greatest cell
number-cells : {T : Type 0} (num : T → ℤ) (xs : List T) (a b : ℤ)
    → (Some (Num a), Some (Num b)) ≡ ends_of (map (λ x. Num (num x)) xs)
    → (least_cell (map (λ x. number (num x)) xs) ≡ Some (number a)) × (greatest_cell (map (λ x. number (num x)) xs) ≡ Some (number b))
number-cells num xs a b e =
    let cells = map (λ x. number (num x)) xs in
    let same = map-map (facet_cell types.i64) (λ x. number (num x)) xs in (
      unfaceted (least_cell cells) a (sym (first-map (facet_cell types.i64) cell_order cell_cmp (cells-keep types.i64) cells)
          ∙ ap (first_by cell_cmp) same ∙ sym (ap (λ p. p.0) e)),
      unfaceted (greatest_cell cells) b
          (sym (first-map (facet_cell types.i64) (λ x y. cell_order y x) (λ x y. cell_cmp y x) (λ x y. cells-keep types.i64 y x) cells)
          ∙ ap (first_by (λ x y. cell_cmp y x)) same ∙ sym (ap (λ p. p.1) e)),
    )

module _ {T : Type 0} (cmp : T → T → Option Ordering) (is_in : T → Bool) (is_default : T → Type 0) (code : T → ℕ)
    (num : T → ℤ) (xs : List T) (lo hi : T)
    (places : HasPlaces cmp is_in code (λ x. Num (num x)) (λ least n. Num (num least +ℤ pos n)))
    (each : All (Passes is_in) xs) (least_in : Passes is_in lo) (exact : AreExact cmp is_default xs lo hi) where
  -- each number stands at a place
  pub are-placed : (d w : ℕ) → 0 < w → d ≡ code hi - code lo
      → AllByRecursion (λ x. IsAtPlace (code lo) w (suc (d / w)) (code x)) xs
  are-placed d w wide far =
      all_by placed xs (are-above cmp is_in is_default code num xs lo hi places each least_in exact)
    where
      placed : (x : T) → IsAbove (num lo) (code lo) (code hi - code lo) (num x) (code x) → IsAtPlace (code lo) w (suc (d / w)) (code x)
      placed x above = record {
        from = above.from;
        below = quotients-rise (code x - code lo) d w wide (let within = above.within in omega (arith, within, far));
      }

  -- the same where the base and the number of places are told
  pub placed-at : (base len d w : ℕ) → base ≡ code lo → len ≡ suc (d / w) → 0 < w → d ≡ code hi - code lo
      → AllByRecursion (λ x. IsAtPlace base w len (code x)) xs
  placed-at base len d w at size wide far =
      subst (λ b. AllByRecursion (λ x. IsAtPlace b w len (code x)) xs) (sym at)
      (subst (λ n. AllByRecursion (λ x. IsAtPlace (code lo) w n (code x)) xs) (sym size) (are-placed d w wide far))

  -- bars with the counts of the places of numbers are those of their cells
  pub number-bars : (d w count : ℕ) (counts : List ℕ) → 0 < length xs → 0 < count → d ≡ code hi - code lo → w ≡ bar_width count d
      → length counts ≡ suc (d / w)
      → ((i : ℕ) → i < length counts → get_or counts i 0 ≡ count_by (λ x. place_of (code lo) w (code x) == i) xs)
      → bars_from (num lo) d w 0 counts ≡ bars_between (least_cell (map (λ x. number (num x)) xs))
      (greatest_cell (map (λ x. number (num x)) xs)) count (map (λ x. number (num x)) xs)
  number-bars d w count counts some asked far width size told =
      let above = are-above cmp is_in is_default code num xs lo hi places each least_in exact in
      let ends = number-cells num xs (num lo) (num hi) (number-ends cmp is_in is_default code num xs lo hi places each least_in exact
      some (num lo) (num hi) (sym (nothing-above (num lo))) (sym (nothing-above (num hi)))) in
      let last = exact.greatest some in
      let most : IsAtMost cmp lo hi = subst (IsAtMost cmp lo) last.2 (exact.encloses.below last.0 hi last.1) in
      let apart : num hi ≡ num lo +ℤ pos d =
      ap num_in (places.stands lo hi least_in most) ∙ ap (λ k. num lo +ℤ pos k) (sym far) in
      bars-are num code (num lo) (num hi) (code lo) d w count counts xs ends.0 ends.1 apart
      (subst (λ k. AllByRecursion (λ x. IsAbove (num lo) (code lo) k (num x) (code x)) xs) (sym far) above)
      asked width size told

  -- the one bar that reaches over the distance has all of them
  pub one-counted : (d : ℕ) → d ≡ code hi - code lo → length xs ≡ count_by (λ x. place_of (code lo) (suc d) (code x) == 0) xs
  one-counted d far =
      all-first num code (num lo) (code lo) d xs
      (subst (λ k. AllByRecursion (λ x. IsAbove (num lo) (code lo) k (num x) (code x)) xs) (sym far)
      (are-above cmp is_in is_default code num xs lo hi places each least_in exact))

  -- the one bar of all values is that of their cells
  pub one-drawn : (d n count : ℕ) → 0 < length xs → 0 < count → d ≡ code hi - code lo → d / count ≡ d → n ≡ length xs
      → bar_at (num lo) d (suc d) 0 n ∷ [] ≡ bars_between (least_cell (map (λ x. number (num x)) xs))
      (greatest_cell (map (λ x. number (num x)) xs)) count (map (λ x. number (num x)) xs)
  one-drawn d n count some asked far whole is =
      number-bars d (suc d) count (n ∷ []) some asked far (ap suc (sym whole)) single told
    where
      single : 1 ≡ suc (d / suc d)
      single = let near = div_below d (suc d) 1 (omega arith) (omega arith) in omega (arith, near)

      told : (i : ℕ) → i < 1 → get_or (n ∷ []) i 0 ≡ count_by (λ x. place_of (code lo) (suc d) (code x) == i) xs
      told zero l = is ∙ one-counted d far
      told (suc i) l = absurd (omega (arith, l))

  -- bars with the counts of the places of numbers have all of them
  pub bars-all : (d w : ℕ) (counts : List ℕ) → 0 < w → d ≡ code hi - code lo → length counts ≡ suc (d / w)
      → ((i : ℕ) → i < length counts → get_or counts i 0 ≡ count_by (λ x. place_of (code lo) w (code x) == i) xs)
      → bar_total (bars_from (num lo) d w 0 counts) ≡ length xs
  bars-all d w counts wide far size told =
      bars-total (λ x. place_of (code lo) w (code x)) (num lo) d w counts xs
      (all_by below xs (are-placed d w wide far)) told
    where
      below : (x : T) → IsAtPlace (code lo) w (suc (d / w)) (code x) → place_of (code lo) w (code x) < length counts
      below x at = let b = at.below in omega (arith, b, size)

-- one bar, or one number, wants no other width than the distance
pub width-one : (count d : ℕ) → count ≡ 1 → d / count ≡ d
width-one count d e = let whole : d / 1 ≡ d = omega arith in ap (λ n. d / n) e ∙ whole

pub width-none : (count d : ℕ) → 0 < count → d ≡ 0 → d / count ≡ d
width-none count d some e =
    let none = div_below 0 count 1 some (omega (arith, some)) in
    let zero-wide : 0 / count ≡ 0 = omega (arith, none) in
    ap (λ n. n / count) e ∙ zero-wide ∙ sym e

-- ---- none

-- where no bar is asked for there is none
pub no-bars : (o p : Option Cell) (cells : List Cell) → bars_between o p 0 cells ≡ []
unfolding bar_ranges
no-bars (Some (number a)) (Some (number b)) cells = refl
no-bars (Some (number a)) (Some (text t)) cells = refl
no-bars (Some (number a)) None cells = refl
no-bars (Some (text t)) p cells = refl
no-bars None p cells = refl

-- without values there are no cells
pub no-cells : {T : Type 0} (f : T → Cell) (xs : List T) → length xs ≡ 0 → map f xs ≡ []
no-cells f [] e = refl
no-cells f (x ∷ xs) e = absurd (omega (arith, e))

-- and none without values
pub empty-bars : (count : ℕ) (cells : List Cell) → cells ≡ [] → bars_between (least_cell cells) (greatest_cell cells) count cells ≡ []
unfolding first_by
empty-bars count cells e = ap (λ cs. bars_between (least_cell cs) (greatest_cell cs) count cs) e

-- ---- columns

-- bars of the values of a column are those of its cells
pub bars-seen : {T : Type 0} (r : Result (Vec Bar Global) AllocError) (cell : T → Cell) (s : Shape) (xs ys : List T) (count : ℕ)
    → ys ≡ xs → IsCounted s (length xs)
    → IfOk r (λ bars. bars.items ≡ bars_between (least_cell (map cell ys)) (greatest_cell (map cell ys)) count (map cell ys))
    → IfOk r (λ bars. bars.items ≡ bars_between (least_cell (cells_of (content_seen [] cell s xs)))
    (greatest_cell (cells_of (content_seen [] cell s xs))) count (cells_of (content_seen [] cell s xs)))
bars-seen r cell s xs ys count e counted h =
    subst (λ cs. IfOk r (λ bars. bars.items ≡ bars_between (least_cell cs) (greatest_cell cs) count cs))
    (ap (map cell) e ∙ sym (cells-seen [] cell s xs counted)) h

-- bars of a column that this one is
pub bars-of-column : (r : Result (Vec Bar Global) AllocError) (c d : DynamicColumn) (count : ℕ) → c ≡ d
    → IfOk r (λ bars. bars.items ≡ bars_of (type_of d) count (cells_of (content_of d)))
    → IfOk r (λ bars. bars.items ≡ bars_of (type_of c) count (cells_of (content_of c)))
bars-of-column r c d count e h =
    subst (λ x. IfOk r (λ bars. bars.items ≡ bars_of (type_of x) count (cells_of (content_of x)))) (sym e) h

-- bars with all values of a column have all its cells
pub all-seen : {T : Type 0} (r : Result (Vec Bar Global) AllocError) (c d : DynamicColumn) (count : ℕ) (ys : List T) → c ≡ d
    → length ys ≡ value_count d → IsCounted (dynamic_shape c) (value_count c)
    → IfOk r (λ bars. 0 < count → bar_total bars.items ≡ length ys)
    → IfOk r (λ bars. 0 < count → has_bars (type_of c) ≡ true → bar_total bars.items ≡ length (cells_of (content_of c)))
all-seen r c d count ys same long counted told =
    IfOk-weaker r (λ bars. 0 < count → bar_total bars.items ≡ length ys)
    (λ bars. 0 < count → has_bars (type_of c) ≡ true → bar_total bars.items ≡ length (cells_of (content_of c)))
    (λ bars h some has. h some ∙ long ∙ ap value_count (sym same) ∙ sym (count-is c counted)) told
