-- What is known of the values of a column that is read.
use Rattle.std.proofs.Common.{◌≡◌, ◌∙◌, ℕ, Bool, true, false, List, [], ◌∷◌, map, option_map, is_some, IfOk, Option, Some, None, Result, Ok, Err, refl, sym, ap, subst, arith}
use Rattle.std.proofs.lemmas.List.{map-id}
use Rattle.std.proofs.lemmas.Option.{same_Some}
use Rattle.col_common.specs.Decoding.{Decodes}
use Rattle.col_common.specs.Reading.{◌>>=◌, only_if}
use Rattle.col_common.specs.declared.error.ColumnarError.{ColumnarError}
use Rattle.col_model.specs.Index.{Shape, shape}
use Rattle.col_model.specs.Stats.{least_of, greatest_of}
use Rattle.col_model.proofs.StatsLaws.{least-below, greatest-above}
use Rattle.col_values.specs.Bounds.{AreExact, IsMappedBound}
use Rattle.col_values.specs.Codes.{number_cmp}
use Rattle.col_numbers.proofs.ImageLemmas.{least-in, greatest-in}
use Rattle.col_column.specs.Columns.{Seen}
use Rattle.col_column.specs.Opened.{counts_exactly, column_seen_by, indexed_by}

-- ---- values that are joined with an index

joined-keeps : {V : Type 0} (P : V → Type 0) (t : Bool) (s : Shape) (values : V) (c : Seen V)
    → only_if t (record { shape = s; values = values }) ≡ Some c → P values → P c.values
joined-keeps P true s values c e p = subst P (ap (λ d. d.values) (same_Some _ c e)) p
joined-keeps P false s values c e p = cc

shaped-keeps : {V : Type 0} (P : V → Type 0) (rows count : ℕ) (values : V) (found : Option Shape) (c : Seen V)
    → (found >>= column_seen_by rows count values) ≡ Some c → P values → P c.values
shaped-keeps P rows count values None c e p = cc
shaped-keeps P rows count values (Some s) c e p = joined-keeps P (is_some (counts_exactly rows count s)) s values c e p

-- what holds of the values holds of those of the column
pub column-keeps : {V : Type 0} (P : V → Type 0) (r : Result (Seen V) ColumnarError) (index : List ℕ)
    (version rows count : ℕ) (values : V) → Decodes (λ c. c) r (indexed_by index version rows count values)
    → P values → IfOk r (λ c. P c.values)
column-keeps P (Ok c) index version rows count values h p = shaped-keeps P rows count values (shape index version) c h p
column-keeps P (Err e) index version rows count values h p = tt

-- ---- the bounds of addresses

-- a bound that is mapped to itself
bound-is : (of : List ℕ → ℕ) → of [] ≡ 0 → (is_default : ℕ → Type 0) → ((n : ℕ) → is_default n → n ≡ 0)
    → (xs : List ℕ) (b : ℕ) → IsMappedBound is_default (λ n. n) xs (λ x. x ≡ of xs) b → b ≡ of xs
bound-is of none is_default default [] b m = default b (m.without_values refl) ∙ sym none
bound-is of none is_default default (x ∷ xs) b m = let found = m.mapped (omega arith) in found.2 ∙ found.1

exact-bounds : (xs : List ℕ) (low high : ℕ) → low ≡ least_of xs → high ≡ greatest_of xs → AreExact number_cmp (λ n. n ≡ 0) xs low high
exact-bounds xs low high l h = record {
  without_values = λ e. (l ∙ ap least_of e, h ∙ ap greatest_of e);
  least = λ some. least-in xs low some l;
  greatest = λ some. greatest-in xs high some h;
  encloses = record { below = least-below xs low l; above = greatest-above xs high h };
}

same-list : (o : Option (List ℕ)) → option_map (map (λ n. n)) o ≡ o
same-list None = refl
same-list (Some xs) = ap Some (map-id xs)

-- those of a list that is read
pub bounds-read : (is_default : ℕ → Type 0) → ((n : ℕ) → is_default n → n ≡ 0)
    → (o : Option (List ℕ)) (xs : List ℕ) (low high : ℕ) → option_map (map (λ n. n)) o ≡ Some xs
    → ((ys : List ℕ) → o ≡ Some ys → IsMappedBound is_default (λ n. n) ys (λ x. x ≡ least_of ys) low)
    → ((ys : List ℕ) → o ≡ Some ys → IsMappedBound is_default (λ n. n) ys (λ x. x ≡ greatest_of ys) high)
    → (a b : ℕ) → a ≡ low → b ≡ high → AreExact number_cmp (λ n. n ≡ 0) xs a b
bounds-read is_default default o xs low high e least greatest a b la hb =
    let is = sym (same-list o) ∙ e in
    exact-bounds xs a b (la ∙ bound-is least_of refl is_default default xs low (least xs is))
    (hb ∙ bound-is greatest_of refl is_default default xs high (greatest xs is))
