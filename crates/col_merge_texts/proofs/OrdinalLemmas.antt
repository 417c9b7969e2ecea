-- Ordinals of terms as those of merged terms.
use Rattle.std.proofs.Common.{◌≡◌, ℕ, zero, suc, ◌<◌, true, List, [], ◌∷◌, map, length, unwrap_or, option_map, Option, Some, None, slice_get, slice_index, refl, sym, ap, ap₂, ◌∙◌, subst, inl, inr, arith}
use Rattle.std.specs.Prelude.{option_and_then, nat_lt}
use Rattle.std.specs.List.{AllByRecursion, list_all}
use Rattle.std.proofs.lemmas.Bool.{and_from, and_parts, lt-ltb}
use Rattle.std.proofs.lemmas.List.{length-map}
use Rattle.std.proofs.lemmas.Option.{slice_get-map, none-some, slice_get_within, get_or_from_slice_get}
use Rattle.col_common.specs.Ascending.{are_below}
use Rattle.col_model.specs.Column.{term_cell}
use Rattle.col_model.specs.Order.{Order, has_row, picks}
use Rattle.col_model.specs.Table.{text}
use Rattle.col_order.specs.Orders.{counts_of, picks_of}
use Rattle.col_terms.specs.Building.{ordered, ordinals}
use Rattle.col_terms.specs.Laws.{TermsAreThoseGiven}
use Rattle.col_text.specs.Texts.{Texts}
use Rattle.col_column.specs.Columns.{rows_by, row_at, num_docs_in}
use Rattle.col_numbers.specs.NumValues.{num_values_of}
use Rattle.col_merge_texts.specs.Items.{terms_of, item_at, IsAmong}
use Rattle.col_merge_texts.proofs.AmongLemmas.{in-all}
use Rattle.col_merge_values.specs.Merges.{picked_row, AreColumns, columns_by}
use Rattle.col_merge_values.specs.TermColumns.{ords_of, remapped, term_columns, remapped_columns}
use Rattle.col_merge_values.proofs.ColumnListLemmas.{columns-none, columns-more}
use Rattle.col_merge_values.proofs.MergedCellLemmas.{row-remapped}
use Rattle.col_merge_values.proofs.MergedRowLemmas.{picks-there}
use Rattle.col_merge_values.proofs.RemappedLemmas.{remapped-are}
use Rattle.col_merge_texts.specs.Noting.{Noted, IsIdBelow, ord_by, ords_by}
use Rattle.col_merge_texts.specs.Taking.{AreTold, Place, IsNowhere, AreNoted}
use Rattle.col_merge_texts.proofs.NoteLemmas.{some-item, id-below}
use Rattle.col_merge_texts.proofs.TakeLemmas.{item-of}
use Rattle.col_merge_texts.proofs.PickLemmas.{row-segment}

-- ---- columns for each segment

-- columns of the segments' rows
pub fit-columns : (counts : List ℕ) (columns : List Texts)
    → map (λ (c : Texts). num_docs_in num_values_of c.ords) columns ≡ counts → AllByRecursion AreTold columns
    → AreColumns counts (term_columns columns)
fit-columns counts [] e told = subst (λ ns. AreColumns ns (columns_by {T = ℕ} [] [])) e columns-none
fit-columns counts (c ∷ cs) e told =
    subst (λ ns. AreColumns ns (term_columns (c ∷ cs))) e
    (columns-more (num_docs_in num_values_of c.ords) (map (λ (d : Texts). num_docs_in num_values_of d.ords) cs) c.ords.shape
    (map (λ (d : Texts). d.ords.shape) cs) (ords_of c) (map ords_of cs)
    (record { rows = refl; counted = told.0.counted })
    (fit-columns (map (λ (d : Texts). num_docs_in num_values_of d.ords) cs) cs refl told.1))

-- ---- ids of all columns

-- each id is one of the terms
pub ids-below : (columns : List Texts) (Whole Left : Place → Type 0) (n : Noted) → AreNoted columns Whole Left n
    → AllByRecursion (AllByRecursion (IsIdBelow (length n.terms))) n.ids
ids-below columns Whole Left n h = all-lists n.ids (λ i j id e. id-below columns Whole Left n h (i, j) id e)
  where
    all-items : (m : ℕ) (ids : List (Option ℕ)) → ((j id : ℕ) → slice_get ids j ≡ Some (Some id) → id < m)
        → AllByRecursion (IsIdBelow m) ids
    all-items m [] f = tt
    all-items m (None ∷ ids) f = (tt, all-items m ids (λ j id e. f (suc j) id e))
    all-items m (Some id ∷ ids) f = (f 0 id refl, all-items m ids (λ j k e. f (suc j) k e))

    all-lists : (idss : List (List (Option ℕ)))
        → ((i j id : ℕ) → item_at idss (i, j) ≡ Some (Some id) → id < length n.terms)
        → AllByRecursion (AllByRecursion (IsIdBelow (length n.terms))) idss
    all-lists [] f = tt
    all-lists (ids ∷ idss) f = (all-items (length n.terms) ids (λ j id e. f 0 j id e), all-lists idss (λ i j id e. f (suc i) j id e))

-- ---- the ordinals of a picked row

-- a picked row of turned ordinals
pub picked-remapped : (columns : List Texts) (maps : List (List ℕ)) (k d : ℕ) (m : List ℕ)
    → slice_get maps k ≡ Some m → k < length columns
    → picked_row (remapped_columns columns maps) (k, d) ≡ remapped m (picked_row (term_columns columns) (k, d))
picked-remapped [] maps k d m e h = absurd (omega (arith, h))
picked-remapped (c ∷ cs) [] k d m e h = absurd (none-some m e)
picked-remapped (c ∷ cs) (l ∷ maps) zero d m e h =
    let same : l ≡ m = (let f : Some l ≡ Some m = e in cc) in
    row-remapped l (ords_of c) c.ords.shape d ∙ ap (λ (w : List ℕ). remapped w (row_at (rows_by c.ords.shape (ords_of c)) d)) same
picked-remapped (c ∷ cs) (l ∷ maps) (suc k) d m e h = picked-remapped cs maps k d m e (omega (arith, h))

-- what an ordinal of a place is turned into is the ordinal of the same term
record IsTurned (columns : List Texts) (found : List (List ℕ)) (k o v : ℕ) : Type 0 where
  pub below : v < length found
  pub same : slice_get found v ≡ item_at (terms_of columns) (k, o)

module _ (columns : List Texts) (Whole : Place → Type 0) (n : Noted) (h : AreNoted columns Whole IsNowhere n)
    (given : TermsAreThoseGiven) where
  turned : (k o : ℕ) (ids : List (Option ℕ)) → slice_get n.ids k ≡ Some ids → Whole (k, o)
      → IsTurned columns (ordered n.terms) k o (slice_index (map (ord_by (ordinals n.terms)) ids) o)
  turned k o ids e w = elim (h.told (k, o) w) [ inl none ↦ absurd none | inr noted ↦ by noted.0 noted.1 ]
    where
      by : (id : ℕ) → item_at n.ids (k, o) ≡ Some (Some id)
          → IsTurned columns (ordered n.terms) k o (slice_index (map (ord_by (ordinals n.terms)) ids) o)
      by id f =
          let own : slice_get ids o ≡ Some (Some id) = sym (ap (option_and_then (λ xs. slice_get xs o)) e) ∙ f in
          let at : slice_index (map (ord_by (ordinals n.terms)) ids) o ≡ slice_index (ordinals n.terms) id =
          get_or_from_slice_get (map (ord_by (ordinals n.terms)) ids) o (slice_index (ordinals n.terms) id) 0
          (slice_get-map (ord_by (ordinals n.terms)) ids o ∙ ap (option_map (ord_by (ordinals n.terms))) own) in
          let low = id-below columns Whole IsNowhere n h (k, o) id f in
          let same : slice_get (ordered n.terms) (slice_index (map (ord_by (ordinals n.terms)) ids) o) ≡ item_at
          (terms_of columns) (k, o) = ap (slice_get (ordered n.terms)) at ∙ given.places n.terms id low
          ∙ h.ids (k, o) id f in
          let item = some-item (item_at (terms_of columns) (k, o)) (h.whole (k, o) w) in
          record {
            below = slice_get_within (ordered n.terms) (slice_index (map (ord_by (ordinals n.terms)) ids) o)
                item.0 (same ∙ item.1);
            same = same;
          }

  -- so are those of a row, as cells and as ordinals
  pub row-turned : (k : ℕ) (c : Texts) (ids : List (Option ℕ)) → slice_get columns k ≡ Some c
      → slice_get n.ids k ≡ Some ids → (os : List ℕ) → ((o : ℕ) → IsAmong o os → Whole (k, o))
      → (map (term_cell (ordered n.terms)) (remapped (map (ord_by (ordinals n.terms)) ids) os)
      ≡ map (term_cell c.terms) os)
      × (are_below (length (ordered n.terms)) (remapped (map (ord_by (ordinals n.terms)) ids) os) ≡ true)
  row-turned k c ids e f [] w = (refl, refl)
  row-turned k c ids e f (o ∷ os) w =
      let t = turned k o ids f (w o (inl refl)) in
      let rest = row-turned k c ids e f os (λ p i. w p (inr i)) in
      let item : item_at (terms_of columns) (k, o) ≡ slice_get c.terms o = item-of columns k o c e in
      let cell : term_cell (ordered n.terms) (slice_index (map (ord_by (ordinals n.terms)) ids) o) ≡ term_cell
      c.terms o = ap (λ p. text (unwrap_or p [])) (t.same ∙ item) in (
        ap₂ (λ a b. a ∷ b) cell rest.0,
        and_from
            (nat_lt (slice_index (map (ord_by (ordinals n.terms)) ids) o) (length (ordered n.terms)))
            (are_below (length (ordered n.terms)) (remapped (map (ord_by (ordinals n.terms)) ids) os))
            (lt-ltb (slice_index (map (ord_by (ordinals n.terms)) ids) o) (length (ordered n.terms)) t.below) rest.1,
      )

-- ---- ordinals for each column

-- turned columns are those of the segments
pub turned-are :
    (columns : List Texts) (counts : List ℕ) (Whole Left : Place → Type 0) (n : Noted) (maps : List (List ℕ))
    → map (λ (c : Texts). num_docs_in num_values_of c.ords) columns ≡ counts → AllByRecursion AreTold columns
    → AreNoted columns Whole Left n → maps ≡ ords_by (ordinals n.terms) n.ids
    → AreColumns counts (remapped_columns columns maps)
turned-are columns counts Whole Left n maps fit told h e =
    let ids = sym (length-map n.ids length) ∙ ap length h.lengths ∙ length-map (terms_of columns) length
    ∙ length-map columns (λ (c : Texts). c.terms) in
    let many = ap length e ∙ length-map n.ids (map (ord_by (ordinals n.terms))) ∙ ids
    ∙ sym (length-map columns (λ (c : Texts). num_docs_in num_values_of c.ords)) ∙ ap length fit in
    remapped-are counts columns maps many (fit-columns counts columns fit told)

-- the columns with the ordinals of noted terms are those of an order's segments
pub noted-are :
    (columns : List Texts) (order : Order) (Whole Left : Place → Type 0) (n : Noted)
    → map (λ (c : Texts). num_docs_in num_values_of c.ords) columns ≡ counts_of order → AllByRecursion AreTold columns
    → AreNoted columns Whole Left n
    → AreColumns (counts_of order) (remapped_columns columns (ords_by (ordinals n.terms) n.ids))
noted-are columns order Whole Left n fit told h = turned-are columns (counts_of order) Whole Left n _ fit told h refl

-- picked rows lie in segments
pub picks-low : (columns : List Texts) (order : Order)
    → map (λ (c : Texts). num_docs_in num_values_of c.ords) columns ≡ counts_of order
    → picks order (counts_of order) ≡ Some (picks_of order) → (p : ℕ × ℕ) → IsAmong p (picks_of order)
    → p.0 < length columns
picks-low columns order fit all p there =
    let named = in-all (λ q. has_row (counts_of order) q ≡ true) p (picks_of order) there (each (picks_of order) (picks-there order all)) in
    row-segment columns p (ap (λ cs. has_row cs p) fit ∙ named)
  where
    each : (ps : List (ℕ × ℕ)) → list_all (has_row (counts_of order)) ps ≡ true
        → AllByRecursion (λ q. has_row (counts_of order) q ≡ true) ps
    each [] e = tt
    each (q ∷ qs) e =
        let parts = and_parts (has_row (counts_of order) q) (list_all (has_row (counts_of order)) qs) e in
        (parts.0, each qs parts.1)
