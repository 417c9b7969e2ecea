-- Columns of terms of segments, one after another.
use Rattle.std.proofs.Common.{◌≡◌, ◌⊎◌, inl, inr, ℕ, suc, ◌+◌, ◌<◌, ◌≤◌, ◌&&◌, true, false, List, [], ◌∷◌, ◌++◌, length, map, take, get_or, slice_get, unwrap_or, Option, Some, None, refl, sym, ap, ap₂, ◌∙◌, subst, arith}
use Rattle.std.specs.Prelude.{filter_map}
use Rattle.std.specs.List.{list_all}
use Rattle.std.proofs.lemmas.List.{take_all, length_push}
use Rattle.std.proofs.lemmas.List.Folds.{list_all_more, list_all_at}
use Rattle.std.proofs.lemmas.Option.{none-some, slice_get_within}
use Rattle.col_model.specs.ColumnType.{ColumnType, has_terms}
use Rattle.col_model.specs.ColumnType as types
use Rattle.col_model.specs.Index.{empty_shape}
use Rattle.col_numbers.specs.NumValues.{num_values_of}
use Rattle.col_column.specs.Columns.{num_docs_in, row_count}
use Rattle.col_text.specs.Texts.{Texts}
use Rattle.col_dynamic.specs.Dynamic.{dynamic_shape, value_count, as_bytes, as_str}
use Rattle.col_dynamic.specs.declared.dynamic_column.DynamicColumn.{DynamicColumn}
use Rattle.col_dynamic.specs.declared.dynamic_column.DynamicColumn.TheVariants as columns
use Rattle.col_merge_slot.specs.Segments.{is_read_as, is_none_or}
use Rattle.col_merge_slot.specs.Texts.{IsTextPart, IsCountedText, AreSegmentTexts}
use Rattle.col_merge_slot.proofs.OwnLemmas.{bytes-own, texts-own}
use Rattle.col_merge_slot.proofs.SegmentLemmas.{get-more, all-kept}

-- the columns of the first i segments
pub record AreTextsUpTo (t : ColumnType) (counts : List ℕ) (kept : List (Option DynamicColumn)) (i : ℕ) (texts : List Texts) : Type 0 where
  pub long : length texts ≡ i
  pub each : (k : ℕ) (x : Texts) → slice_get texts k ≡ Some x → IsTextPart (get_or counts k 0) (get_or kept k None) x
  pub read : list_all (is_none_or (is_read_as t)) (take i kept) ≡ true

module _ (t : ColumnType) (counts : List ℕ) (kept : List (Option DynamicColumn)) where
  -- before the first
  pub no-texts : AreTextsUpTo t counts kept 0 []
  no-texts = record { long = refl; each = λ k x e. absurd (omega (arith, slice_get_within [] k x e)); read = refl }

  -- one more
  pub one-text : (i : ℕ) (texts more : List Texts) (x : Texts) → i < length kept
      → AreTextsUpTo t counts kept i texts → is_none_or (is_read_as t) (get_or kept i None) ≡ true
      → IsTextPart (get_or counts i 0) (get_or kept i None) x → more ≡ texts ++ x ∷ []
      → AreTextsUpTo t counts kept (i + 1) more
  one-text i texts more x h before read part more_is = record {
    long = ap length more_is ∙ length_push texts x ∙ ap (λ n. n + 1) before.long;
    each = λ k y e. by k y (get-more texts x y k (ap (λ xs. slice_get xs k) (sym more_is) ∙ e));
    read = list_all_more (is_none_or (is_read_as t)) kept i None h ∙ ap₂ (λ a b. a && b) before.read read;
  }
    where
      by : (k : ℕ) (y : Texts) → (slice_get texts k ≡ Some y) ⊎ ((k ≡ length texts) × (x ≡ y))
          → IsTextPart (get_or counts k 0) (get_or kept k None) y
      by k y (inl e) = before.each k y e
      by k y (inr h) =
          subst (λ j. IsTextPart (get_or counts j 0) (get_or kept j None) y) (sym before.long ∙ sym h.0)
          (subst (IsTextPart (get_or counts i 0) (get_or kept i None)) h.1 part)

  all-fit : (ns : List ℕ) (texts : List Texts) → length texts ≡ length ns
      → ((k : ℕ) (x : Texts) → slice_get texts k ≡ Some x → num_docs_in num_values_of x.ords ≡ get_or ns k 0)
      → map (λ x. num_docs_in num_values_of x.ords) texts ≡ ns
  all-fit [] [] long each = refl
  all-fit (n ∷ ns) [] long each = absurd (omega (arith, long))
  all-fit [] (x ∷ texts) long each = absurd (omega (arith, long))
  all-fit (n ∷ ns) (x ∷ texts) long each =
      ap₂ (λ a b. a ∷ b) (each 0 x refl) (all-fit ns texts (omega (arith, long)) (λ k y e. each (suc k) y e))

  -- behind the last
  pub all-texts : (i : ℕ) (texts : List Texts) → length kept ≡ length counts → length kept ≤ i → i ≤ length kept
      → AreTextsUpTo t counts kept i texts → AreSegmentTexts t counts kept texts
  all-texts i texts long low high before = record {
    fit = all-fit counts texts (omega (arith, before.long, long, low, high)) (λ k x e. (before.each k x e).rows);
    each = λ k x e. (before.each k x e).seen;
    read = sym (all-kept (is_read_as t) kept) ∙ ap (list_all (is_none_or (is_read_as t))) (sym (take_all i kept low)) ∙ before.read;
  }

-- ---- columns of texts

-- a column that isn't one of str can't be read as str
pub str-none : (c : DynamicColumn) → as_str c ≡ None → is_read_as types.str c ≡ false
str-none (columns.Bool c) e = refl
str-none (columns.I64 c) e = refl
str-none (columns.U64 c) e = refl
str-none (columns.IpAddr c) e = refl
str-none (columns.DateTime c) e = refl
str-none (columns.Bytes c) e = refl
str-none (columns.Str c) e = absurd (none-some c (sym e))

-- a column of str can be read as such, and is its segment's part of the texts
pub str-some : (c : DynamicColumn) (x : Texts) → as_str c ≡ Some x → IsCountedText x
    → (is_read_as types.str c ≡ true) × IsTextPart (row_count (dynamic_shape c) (value_count c)) (Some c) x
str-some (columns.Bool c) x e counted = absurd (none-some x e)
str-some (columns.I64 c) x e counted = absurd (none-some x e)
str-some (columns.U64 c) x e counted = absurd (none-some x e)
str-some (columns.IpAddr c) x e counted = absurd (none-some x e)
str-some (columns.DateTime c) x e counted = absurd (none-some x e)
str-some (columns.Bytes c) x e counted = absurd (none-some x e)
str-some (columns.Str c) x e counted =
    let same : x ≡ c = ap (λ o. unwrap_or o x) (sym e) in (
      texts-own c.terms c.ords.shape (num_values_of c.ords.values) (subst IsCountedText same counted),
      subst
          (IsTextPart (row_count c.ords.shape (length (num_values_of c.ords.values))) (Some (columns.Str c)))
          (sym same) (record { rows = refl; seen = refl }),
    )

-- ---- columns of byte strings

-- a column that isn't one of bytes can't be read as bytes
pub bytes-none : (c : DynamicColumn) → as_bytes c ≡ None → is_read_as types.bytes c ≡ false
bytes-none (columns.Bool c) e = refl
bytes-none (columns.I64 c) e = refl
bytes-none (columns.U64 c) e = refl
bytes-none (columns.IpAddr c) e = refl
bytes-none (columns.DateTime c) e = refl
bytes-none (columns.Bytes c) e = absurd (none-some c (sym e))
bytes-none (columns.Str c) e = refl

-- a column of bytes can be read as such, and is its segment's part of the texts
pub bytes-some : (c : DynamicColumn) (x : Texts) → as_bytes c ≡ Some x → IsCountedText x
    → (is_read_as types.bytes c ≡ true) × IsTextPart (row_count (dynamic_shape c) (value_count c)) (Some c) x
bytes-some (columns.Bool c) x e counted = absurd (none-some x e)
bytes-some (columns.I64 c) x e counted = absurd (none-some x e)
bytes-some (columns.U64 c) x e counted = absurd (none-some x e)
bytes-some (columns.IpAddr c) x e counted = absurd (none-some x e)
bytes-some (columns.DateTime c) x e counted = absurd (none-some x e)
bytes-some (columns.Bytes c) x e counted =
    let same : x ≡ c = ap (λ o. unwrap_or o x) (sym e) in (
      bytes-own c.terms c.ords.shape (num_values_of c.ords.values) (subst IsCountedText same counted),
      subst
          (IsTextPart (row_count c.ords.shape (length (num_values_of c.ords.values))) (Some (columns.Bytes c)))
          (sym same) (record { rows = refl; seen = refl }),
    )
bytes-some (columns.Str c) x e counted = absurd (none-some x e)

-- ---- a segment without a column

-- texts without terms and values stand for a segment that has no column
pub empty-part : (n : ℕ) (x : Texts) → x.terms ≡ [] → x.ords.shape ≡ empty_shape n → IsTextPart n None x
empty-part n x terms shape = record {
  rows = ap (λ s. row_count s (length (num_values_of x.ords.values))) shape;
  seen = (terms, shape);
}

-- a part of texts is one of an equal column with an equal row count
pub text-as : (n m : ℕ) (o p : Option DynamicColumn) (x : Texts) → n ≡ m → o ≡ p → IsTextPart n o x → IsTextPart m p x
text-as n m o p x e f part = subst (λ k. IsTextPart k p x) e (subst (λ q. IsTextPart n q x) f part)

-- a column that isn't of the type
pub text-not-read : (t : ColumnType) (kept : List (Option DynamicColumn)) (i : ℕ) → i < length kept
    → is_none_or (is_read_as t) (get_or kept i None) ≡ false
    → list_all (is_read_as t) (filter_map (λ o. o) kept) ≡ false
text-not-read t kept i h other = sym (all-kept (is_read_as t) kept) ∙ list_all_at (is_none_or (is_read_as t)) kept i None h other
