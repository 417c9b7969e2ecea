-- Records made field by field, and one behind another.
use Rattle.std.proofs.Common.{◌≡◌, ◌∙◌, ℕ, ◌+◌, ◌<◌, ◌≤◌, ◌||◌, Bool, true, false, List, [], ◌∷◌, ◌++◌, map, length, take, get_or, refl, sym, ap, subst, arith, append-nil, append_assoc}
use Rattle.std.specs.List.{list_any}
use Rattle.std.proofs.lemmas.Grind.{flat_map-append}
use Rattle.std.proofs.lemmas.List.{map_more, take_all}
use Rattle.std.proofs.lemmas.List.FromFn.{map-range_with_len_more}
use Rattle.csv.specs.Records.{Row, fields_of, partial_of}
use Rattle.col_model.specs.Table.{Column}
use Rattle.col_csv.specs.Csv.{records_text, record_text, row_fields, row_records}
use Rattle.col_csv_export.specs.Putting.{AddsFields, HasFields}

-- ---- fields

-- a field in an empty record
pub first-field : (r : Row) (all : List (List ℕ)) (f partial : List ℕ) → all ≡ [] → partial ≡ []
    → fields_of r ≡ all ++ ((partial ++ f) ∷ []) → partial_of r ≡ [] → HasFields r (f ∷ [])
first-field r all f partial none whole is done = record {
  whole = is ∙ ap (λ fs. fs ++ ((partial ++ f) ∷ [])) none ∙ ap (λ p. (p ++ f) ∷ []) whole;
  done = done;
}

module _ {X : Type 0} (f : X → List ℕ) (front : List (List ℕ)) (xs : List X) where
  -- the field of one item more
  pub fields-more : (a b : Row) (i : ℕ) (x : X) → i < length xs → x ≡ get_or xs i x
      → HasFields a (front ++ map f (take i xs)) → AddsFields a b (f x ∷ []) → HasFields b (front ++ map f (take (i + 1) xs))
  fields-more a b i x within at before adds =
      let cut : map f (take (i + 1) xs) ≡ map f (take i xs) ++ f x ∷ [] = rw (map_more f xs i x within, ← at) refl in
      subst (HasFields b) (append_assoc front (map f (take i xs)) (f x ∷ []) ∙ ap (λ fs. front ++ fs) (sym cut))
      (adds (front ++ map f (take i xs)) before)

  -- where no item is left, each has its field
  pub fields-all : (a : Row) (i : ℕ) → length xs ≤ i → HasFields a (front ++ map f (take i xs)) → HasFields a (front ++ map f xs)
  fields-all a i past before = rw (take_all i xs past) at before

-- what is made of what others are made of
pub map-through : {X Y Z : Type 0} (f : Y → Z) (g : X → Y) (xs : List X) → map (λ x. f (g x)) xs ≡ map f (map g xs)
map-through f g [] = refl
map-through f g (x ∷ xs) = ap (λ ys. f (g x) ∷ ys) (map-through f g xs)

-- ---- records

-- the texts of no records, and of one more
pub rows-none : (columns : List Column) → records_text (row_records columns 0) ≡ []
rows-none columns = refl

pub rows-more : (columns : List Column) (n : ℕ)
    → records_text (row_records columns n) ++ record_text (row_fields columns n) ≡ records_text (row_records columns (n + 1))
rows-more columns n =
    let here = record_text (row_fields columns n) in
    ap (λ t. records_text (row_records columns n) ++ t) (sym (append-nil here))
    ∙ sym (flat_map-append record_text (row_records columns n) (row_fields columns n ∷ []))
    ∙ ap records_text (sym (map-range_with_len_more (row_fields columns) 0 n n (omega arith)))

-- ---- tests of items

-- a test of what is made of each item
pub any-through : {X Y : Type 0} (p : Y → Bool) (g : X → Y) (xs : List X) → list_any (λ x. p (g x)) xs ≡ list_any p (map g xs)
any-through p g [] = refl
any-through p g (x ∷ xs) = by (p (g x)) (any-through p g xs)
  where
    by : (b : Bool) → list_any (λ x. p (g x)) xs ≡ list_any p (map g xs)
        → (b || list_any (λ x. p (g x)) xs) ≡ (b || list_any p (map g xs))
    by true e = refl
    by false e = e
