-- The ordinals of the values of picked rows, by their ids.
use Rattle.std.proofs.Common.{◌≡◌, ℕ, zero, suc, ◌<◌, List, [], ◌∷◌, ◌++◌, map, length, unwrap_or, option_map, Option, Some, None, slice_get, slice_index, refl, sym, ap, ◌∙◌, subst, inl, inr, arith}
use Rattle.std.specs.Prelude.{option_and_then}
use Rattle.std.proofs.lemmas.List.{map-append}
use Rattle.std.proofs.lemmas.Option.{slice_get-map}
use Rattle.col_common.specs.Ascending.{AreBelow}
use Rattle.col_model.specs.Order.{Order, stack, shuffle}
use Rattle.col_model.specs.U64List.{joined_lists}
use Rattle.col_model.proofs.ListLaws.{item-at}
use Rattle.col_order.specs.Orders.{picks_of}
use Rattle.col_text.specs.Texts.{Texts}
use Rattle.col_merge_texts.specs.Items.{item_at, IsAmong}
use Rattle.col_merge_values.specs.Merges.{picked_row, merged_rows, merged_values, merge_of, values_of}
use Rattle.col_merge_values.specs.TermColumns.{remapped, term_columns, remapped_columns}
use Rattle.col_merge_texts.specs.Noting.{Noted, ord_by, ords_by}
use Rattle.col_merge_texts.specs.Taking.{Place, AreNoted}
use Rattle.col_merge_texts.specs.Ids.{row_places, places_of, AreIds, HasIds}
use Rattle.col_merge_texts.proofs.IdLemmas.{ids-low}
use Rattle.col_merge_texts.proofs.OrdinalLemmas.{picked-remapped}

-- the ordinal of a place's id
abbrev ord_at : List ℕ → List (List (Option ℕ)) → Place → ℕ
ord_at ords held p = ord_by ords (unwrap_or (item_at held p) None)

item-by : (ords : List ℕ) (ids : List (Option ℕ)) (o : ℕ)
    → slice_index (map (ord_by ords) ids) o ≡ ord_by ords (unwrap_or (slice_get ids o) None)
item-by ords [] o = refl
item-by ords (id ∷ ids) zero = refl
item-by ords (id ∷ ids) (suc o) = item-by ords ids o

-- a row's
row-ords : (ords : List ℕ) (held : List (List (Option ℕ))) (k : ℕ) (ids : List (Option ℕ))
    → slice_get held k ≡ Some ids → (os : List ℕ)
    → remapped (map (ord_by ords) ids) os ≡ map (ord_at ords held) (map (λ o. (k, o)) os)
row-ords ords held k ids e [] = refl
row-ords ords held k ids e (o ∷ os) = λ i. here i ∷ row-ords ords held k ids e os i
  where
    here : slice_index (map (ord_by ords) ids) o ≡ ord_at ords held (k, o)
    here = item-by ords ids o ∙ ap (λ q. ord_by ords (unwrap_or q None)) (sym (ap (option_and_then (λ xs. slice_get xs o)) e))

module _ (columns : List Texts) (ords : List ℕ) (held : List (List (Option ℕ))) (long : length held ≡ length columns) where
  -- those of rows
  rows-ords : (rows : List (ℕ × ℕ)) → ((p : ℕ × ℕ) → IsAmong p rows → p.0 < length columns)
      → joined_lists (merged_rows (remapped_columns columns (ords_by ords held)) rows)
      ≡ map (ord_at ords held) (places_of columns rows)
  rows-ords [] low = refl
  rows-ords (p ∷ rows) low =
      let l = low p (inl refl) in
      let ids = item-at held p.0 (omega (arith, l, long)) in
      let at : slice_get (ords_by ords held) p.0 ≡ Some (map (ord_by ords) ids.0) =
      slice_get-map (map (ord_by ords)) held p.0 ∙ ap (option_map (map (ord_by ords))) ids.1 in
      let first = picked-remapped columns (ords_by ords held) p.0 p.1 (map (ord_by ords) ids.0) at l
      ∙ row-ords ords held p.0 ids.0 ids.1 (picked_row (term_columns columns) p) in
      let rest = rows-ords rows (λ q i. low q (inr i)) in
      (λ i. first i ++ rest i) ∙ sym (map-append (ord_at ords held) (row_places columns p) (places_of columns rows))

  -- where places have their ids
  ids-ords : (ps : List Place) (ids : List ℕ) → AreIds held ps ids → map (ord_at ords held) ps ≡ map (slice_index ords) ids
  ids-ords [] [] h = refl
  ids-ords [] (id ∷ ids) h = absurd (cc)
  ids-ords (p ∷ ps) [] h = absurd (cc)
  ids-ords (p ∷ ps) (id ∷ ids) h =
      let first : item_at held p ≡ Some (Some id) = cc in
      let rest : map (item_at held) ps ≡ map (λ k. Some (Some k)) ids = cc in
      λ i. ap (λ q. ord_by ords (unwrap_or q None)) first i ∷ ids-ords ps ids rest i

  -- the values that a shuffle picks are the ordinals of their ids
  pub picked-ords : (counts : List ℕ) (rows : List (ℕ × ℕ)) (ids : List ℕ)
      → ((p : ℕ × ℕ) → IsAmong p rows → p.0 < length columns) → AreIds held (places_of columns rows) ids
      → values_of (merge_of (remapped_columns columns (ords_by ords held)) (shuffle counts rows))
      ≡ map (slice_index ords) ids
  unfolding merged_values
  picked-ords counts rows ids low h = rows-ords rows low ∙ ids-ords (places_of columns rows) ids h

-- ---- by an order

-- under a shuffle the merged values are the ordinals of the ids that its rows have
pub order-ords :
    (columns : List Texts) (order : Order) (counts : List ℕ) (rows : List (ℕ × ℕ)) (n : Noted) (ords ids : List ℕ)
    → order ≡ shuffle counts rows → length n.ids ≡ length columns
    → ((p : ℕ × ℕ) → IsAmong p (picks_of order) → p.0 < length columns) → HasIds columns order n ids
    → values_of (merge_of (remapped_columns columns (ords_by ords n.ids)) order) ≡ map (slice_index ords) ids
order-ords columns (stack own) counts rows n ords ids e long low h = absurd (cc)
order-ords columns (shuffle own picked) counts rows n ords ids e long low h = picked-ords columns ords n.ids long own picked ids low h

-- the ids of a shuffle's values are below the number of terms that were noted
pub order-low : (columns : List Texts) (order : Order) (Whole Left : Place → Type 0) (n : Noted) (ids : List ℕ)
    → AreNoted columns Whole Left n → HasIds columns order n ids → AreBelow (length n.terms) ids
order-low columns (stack counts) Whole Left n ids noted h = subst (AreBelow (length n.terms)) (sym h) tt
order-low columns (shuffle counts rows) Whole Left n ids noted h = ids-low columns Whole Left n noted (places_of columns rows) ids h
