-- The terms that were noted are those of the merged column.
use Rattle.std.proofs.Common.{◌≡◌, ℕ, zero, suc, ◌+◌, ◌*◌, ◌-◌, ◌≤◌, ◌^◌, nat_le, not, ◌&&◌, Bool, true, false, List, [], ◌∷◌, map, filter_map, length, bytes_eq, sum_by, is_some, unwrap_or, option_map, Option, Some, None, slice_get, refl, sym, ap, ◌∙◌, subst, inl, inr, arith}
use Rattle.std.specs.List.{AllByRecursion}
use Rattle.std.proofs.lemmas.Bool.{true≢false, or_parts}
use Rattle.std.specs.Cmp.{IsEquivalence}
use Rattle.std.proofs.lemmas.Map.Keys.{IsDistinct-cons}
use Rattle.std.proofs.lemmas.Map.Made.{length-le_from_is_member}
use Rattle.std.proofs.lemmas.Option.{slice_get_within}
use Rattle.col_common.specs.declared.error.ColumnarError.{ColumnarError}
use Rattle.col_model.specs.Column.{term_cell}
use Rattle.col_model.specs.Order.{Order, stack, shuffle}
use Rattle.col_model.specs.Table.{text}
use Rattle.col_model.specs.U64List.{joined_lists}
use Rattle.col_model.specs.Written.{text_of}
use Rattle.col_model.proofs.OrderingLaws.{bytes_eq-true, bytes_eq-same}
use Rattle.col_model.proofs.TestLaws.{both-ways}
use Rattle.col_terms.specs.Building.{is_known, ordered}
use Rattle.col_terms.proofs.OrderedLemmas.{AreInOrder, in_order-ordered}
use Rattle.col_terms.proofs.GivenLemmas.{known-ordered}
use Rattle.col_column.specs.Columns.{row_at, rows_of_values}
use Rattle.col_numbers.specs.NumValues.{num_values_of}
use Rattle.col_column.proofs.CellLemmas.{row-map}
use Rattle.col_text.specs.Texts.{Texts}
use Rattle.col_merge_texts.specs.Items.{terms_of, item_at, IsAmong}
use Rattle.col_merge_texts.proofs.AmongLemmas.{in-map, in-left, in-right}
use Rattle.col_merge_values.specs.Merges.{picked_row}
use Rattle.col_merge_values.specs.TermColumns.{term_columns}
use Rattle.col_merge_texts.specs.Noting.{Noted, IsPastIds, IsNoteRefusal}
use Rattle.col_merge_texts.specs.Merged.{picked_cells, merged_terms, has_long_terms}
use Rattle.col_merge_texts.specs.Taking.{AreTold, Place, IsPicked, IsTaken, IsNowhere, AreNoted, IsTakeRefusal}
use Rattle.col_merge_texts.proofs.NoteLemmas.{some-item}
use Rattle.col_merge_texts.proofs.PickLemmas.{picked-is, picked-there}
use Rattle.col_merge_texts.proofs.KnownLemmas.{known-in, in-known, same-ordered, in-either, get-in, in-get, text-in, in-text, in-mapped, InJoined, in-joined, joined-in}

-- ---- the terms of all columns

place-joined : (tss : List (List (List ℕ))) (i j : ℕ) (t : List ℕ) → item_at tss (i, j) ≡ Some t → IsAmong t (joined_lists tss)
place-joined [] i j t e = cc
place-joined (ts ∷ tss) zero j t e = in-left t ts (joined_lists tss) (get-in ts j t e)
place-joined (ts ∷ tss) (suc i) j t e = in-right t ts (joined_lists tss) (place-joined tss i j t e)

-- a term is one of those at places
pub record IsAt (columns : List Texts) (W : Place → Type 0) (t : List ℕ) : Type 0 where
  pub place : Place
  pub whole : W place
  pub is : item_at (terms_of columns) place ≡ Some t

-- the term stands in one of the lists
record Joined (tss : List (List (List ℕ))) (t : List ℕ) : Type 0 where
  pub at : ℕ × ℕ
  pub is : item_at tss at ≡ Some t

joined-place : (tss : List (List (List ℕ))) (t : List ℕ) → IsAmong t (joined_lists tss) → Joined tss t
joined-place [] t i = absurd i
joined-place (ts ∷ tss) t i = elim (in-either t ts (joined_lists tss) i) [
  | inl here ↦ (let g = in-get ts t here in record { at = (0, g.0); is = g.1 })
  | inr later ↦ (let p = joined-place tss t later in record { at = (suc p.at.0, p.at.1); is = p.is })
]

-- ---- the terms of picked rows

-- the cells of a picked row are the terms of its ordinals
pub picked-cells : (columns : List Texts) (row : ℕ × ℕ) (c : Texts) → slice_get columns row.0 ≡ Some c
    → picked_cells columns row ≡ map (term_cell c.terms) (picked_row (term_columns columns) row)
picked-cells columns row c e =
    ap (λ o. unwrap_or (option_map
    (λ (d : Texts). row_at (map (map (term_cell d.terms)) (rows_of_values num_values_of d.ords)) row.1) o) []) e
    ∙ row-map (term_cell c.terms) (rows_of_values num_values_of c.ords) row.1
    ∙ ap (map (term_cell c.terms)) (sym (picked-is columns row.0 row.1 c e))

-- a term at a place is one of a column
record HeldIn (columns : List Texts) (k o : ℕ) (t : List ℕ) : Type 0 where
  pub column : Texts
  pub there : slice_get columns k ≡ Some column
  pub is : slice_get column.terms o ≡ Some t

item-column : (columns : List Texts) (k o : ℕ) (t : List ℕ) → item_at (terms_of columns) (k, o) ≡ Some t → HeldIn columns k o t
item-column [] k o t e = cc
item-column (c ∷ cs) zero o t e = record { column = c; there = refl; is = e }
item-column (c ∷ cs) (suc k) o t e = let h = item-column cs k o t e in record { column = h.column; there = h.there; is = h.is }

-- ---- the merged terms

picked-known : (columns : List Texts) (rows : List (ℕ × ℕ)) (t : List ℕ) → IsAt columns (IsPicked columns rows) t
    → IsAmong t (filter_map text_of (joined_lists (map (picked_cells columns) rows)))
picked-known columns rows t a =
    let w = a.whole in
    let held = item-column columns w.row.0 a.place.1 t (ap (λ s. item_at (terms_of columns) (s, a.place.1)) (sym w.segment) ∙ a.is) in
    let cell : term_cell held.column.terms a.place.1 ≡ text t = ap (λ o. text (unwrap_or o [])) held.is in
    let there : IsAmong (text t) (picked_cells columns w.row) =
    subst (IsAmong (text t)) (sym (picked-cells columns w.row held.column held.there))
    (subst (λ c. IsAmong c (map (term_cell held.column.terms) (picked_row (term_columns columns) w.row))) cell
    (in-map (term_cell held.column.terms) a.place.1 (picked_row (term_columns columns) w.row) w.held)) in
    in-text (joined_lists (map (picked_cells columns) rows)) t (joined-in (picked_cells columns) (text t) w.row rows w.named there)

known-picked : (columns : List Texts) (rows : List (ℕ × ℕ)) (t : List ℕ) → AllByRecursion AreTold columns
    → IsAmong t (filter_map text_of (joined_lists (map (picked_cells columns) rows)))
    → IsAt columns (IsPicked columns rows) t
known-picked columns rows t told i =
    let j = in-joined (picked_cells columns) (text t) rows (text-in (joined_lists (map (picked_cells columns) rows)) t i) in
    by j (slice_get columns j.item.0) refl
  where
    by : (j : InJoined (picked_cells columns) (text t) rows) → (o : Option Texts) → slice_get columns j.item.0 ≡ o
        → IsAt columns (IsPicked columns rows) t
    by j None e =
        absurd (subst (IsAmong (text t)) (ap (λ o. unwrap_or (option_map
        (λ (d : Texts). row_at (map (map (term_cell d.terms)) (rows_of_values num_values_of d.ords)) j.item.1) o) []) e)
        j.held)
    by j (Some c) e =
        let m = in-mapped (term_cell c.terms) (text t) (picked_row (term_columns columns) j.item)
        (subst (IsAmong (text t)) (picked-cells columns j.item c e) j.held) in
        let p : Place = (j.item.0, m.item) in
        let w : IsPicked columns rows p = record { row = j.item; named = j.there; segment = refl; held = m.there } in
        let item = some-item (item_at (terms_of columns) p) (picked-there columns rows told p w) in
        let own = item-column columns j.item.0 m.item item.0 item.1 in
        let one : c ≡ own.column = (let f : Some c ≡ Some own.column = sym e ∙ own.there in cc) in
        let same : text t ≡ text item.0 = m.is ∙ ap (λ (d : Texts). term_cell d.terms m.item) one
        ∙ ap (λ o. text (unwrap_or o [])) own.is in
        let term : t ≡ item.0 = cc in
        record { place = p; whole = w; is = item.1 ∙ ap Some (sym term) }

-- the merged terms are those at places that are taken
pub taken-known : (columns : List Texts) (order : Order) (t : List ℕ) → IsAt columns (IsTaken columns order) t
    → is_known (merged_terms columns order) t ≡ true
taken-known columns (stack counts) t a =
    known-ordered (joined_lists (terms_of columns)) t
    ∙ in-known (joined_lists (terms_of columns)) t (place-joined (terms_of columns) a.place.0 a.place.1 t a.is)
taken-known columns (shuffle counts rows) t a =
    let given = filter_map text_of (joined_lists (map (picked_cells columns) rows)) in
    known-ordered given t ∙ in-known given t (picked-known columns rows t a)

pub known-taken : (columns : List Texts) (order : Order) (t : List ℕ) → AllByRecursion AreTold columns
    → is_known (merged_terms columns order) t ≡ true → IsAt columns (IsTaken columns order) t
known-taken columns (stack counts) t told e =
    let j = joined-place (terms_of columns) t (known-in (joined_lists (terms_of columns)) t
    (sym (known-ordered (joined_lists (terms_of columns)) t) ∙ e)) in
    record { place = j.at; whole = ap is_some j.is; is = j.is }
known-taken columns (shuffle counts rows) t told e =
    let given = filter_map text_of (joined_lists (map (picked_cells columns) rows)) in
    known-picked columns rows t told (known-in given t (sym (known-ordered given t) ∙ e))

merged-in_order : (columns : List Texts) (order : Order) → AreInOrder (merged_terms columns order)
merged-in_order columns (stack counts) = in_order-ordered (joined_lists (terms_of columns))
merged-in_order columns (shuffle counts rows) = in_order-ordered (filter_map text_of (joined_lists (map (picked_cells columns) rows)))

module _ (columns : List Texts) (order : Order) (Left : Place → Type 0) (n : Noted)
    (h : AreNoted columns (IsTaken columns order) Left n) where
  -- each term that was noted is one of them
  pub noted-known : (t : List ℕ) → is_known n.terms t ≡ true → is_known (merged_terms columns order) t ≡ true
  noted-known t e =
      let at = in-get n.terms t (known-in n.terms t e) in
      let from = h.from at.0 (slice_get_within n.terms at.0 t at.1) in
      taken-known columns order t (record { place = from.place; whole = from.whole; is = sym from.is ∙ at.1 })

-- the noted terms in order are the merged ones
pub noted-merged : (columns : List Texts) (order : Order) (n : Noted) → AllByRecursion AreTold columns
    → AreNoted columns (IsTaken columns order) IsNowhere n → ordered n.terms ≡ merged_terms columns order
noted-merged columns order n told h =
    same-ordered (ordered n.terms) (merged_terms columns order) (in_order-ordered n.terms) (merged-in_order columns order)
    (λ t. known-ordered n.terms t
    ∙ both-ways (is_known n.terms t) (is_known (merged_terms columns order) t)
    (noted-known columns order IsNowhere n h t) (back t))
  where
    back : (t : List ℕ) → is_known (merged_terms columns order) t ≡ true → is_known n.terms t ≡ true
    back t e =
        let a = known-taken columns order t told e in
        elim (h.told a.place a.whole) [
          | inl none ↦ absurd none
          | inr noted ↦ in-known n.terms t (get-in n.terms noted.0 t (h.ids a.place noted.0 noted.1 ∙ a.is))
        ]

-- ---- more terms than 32 bits count

bytes_equal : IsEquivalence bytes_eq
bytes_equal = record {
  refl = bytes_eq-same;
  symm = λ x y. both-ways (bytes_eq x y) (bytes_eq y x) (turn x y) (turn y x);
  congr = λ x y z e. ap (λ w. bytes_eq w z) (bytes_eq-true x y e);
}
  where
    turn : (x y : List ℕ) → bytes_eq x y ≡ true → bytes_eq y x ≡ true
    turn x y e = ap (bytes_eq y) (bytes_eq-true x y e) ∙ bytes_eq-same y

apart : (t : List ℕ) (ts : List (List ℕ)) → is_known ts t ≡ false → AllByRecursion (λ u. bytes_eq t u ≡ false) ts
apart t [] e = tt
apart t (u ∷ ts) e = let parts = or_parts (bytes_eq t u) (is_known ts t) e in (parts.0, apart t ts parts.1)

past-parts : (known : Bool) (n : ℕ) → (not known && nat_le (2 ^ 32 - 1) n) ≡ true → (known ≡ false) × (2 ^ 32 - 1 ≤ n)
past-parts true n e = absurd (true≢false (sym e))
past-parts false n e = (refl, reached n e)
  where
    reached : (m : ℕ) → nat_le (2 ^ 32 - 1) m ≡ true → 2 ^ 32 - 1 ≤ m
    reached m t = grind arith

-- a new term behind as many terms as there are ids
pub past-long : (columns : List Texts) (order : Order) (Left : Place → Type 0) (n : Noted) (p : Place) (t : List ℕ)
    → AreNoted columns (IsTaken columns order) Left n → IsTaken columns order p
    → item_at (terms_of columns) p ≡ Some t → IsPastIds n.terms t → has_long_terms columns order ≡ true
past-long columns order Left n p t h w is past =
    let found = merged_terms columns order in
    let parts = past-parts (is_known n.terms t) (length n.terms) past.past in
    let distinct = IsDistinct-cons bytes_eq t n.terms (apart t n.terms parts.0) past.differ in
    let many : length (t ∷ n.terms) ≤ length found =
    length-le_from_is_member bytes_equal (t ∷ n.terms) found distinct
    (λ q e. each q (known-in (t ∷ n.terms) q e)) in
    reach (4 + 4 * length found + sum_by length found) (omega (arith, many, parts.1))
  where
    each : (q : List ℕ) → IsAmong q (t ∷ n.terms) → is_known (merged_terms columns order) q ≡ true
    each q i = elim i [
      | inl e ↦ taken-known columns order q (record { place = p; whole = w; is = is ∙ ap Some (sym e) })
      | inr rest ↦ noted-known columns order Left n h q (in-known n.terms q rest)
    ]

    reach : (m : ℕ) → 2 ^ 32 ≤ m → nat_le (2 ^ 32) m ≡ true
    reach m l = grind arith

-- a term that isn't noted
pub take-refused : (columns : List Texts) (order : Order) (Left : Place → Type 0) (n : Noted) (p : Place)
    (t : List ℕ) (e : ColumnarError) → AreNoted columns (IsTaken columns order) Left n → IsTaken columns order p
    → item_at (terms_of columns) p ≡ Some t → IsNoteRefusal n.terms t e → IsTakeRefusal columns order e
take-refused columns order Left n p t e h w is r =
    elim r [ inl memory ↦ inl memory | inr past ↦ inr (past.0, past-long columns order Left n p t h w is past.1) ]
