-- What the bytes of a merged column stand for.
use Rattle.std.proofs.Common.{◌≡◌, ℕ, ◌<◌, ◌^◌, true, List, [], ◌∷◌, ◌++◌, map, length, option_map, Option, Some, slice_get, refl, sym, ap, ap₂, ◌∙◌, inl, inr, arith}
use Rattle.std.specs.Prelude.{nat_le}
use Rattle.std.specs.Int.{w32, to_le_bytes}
use Rattle.std.specs.List.{AllByRecursion, list_all}
use Rattle.std.proofs.lemmas.Bool.{and_from}
use Rattle.std.proofs.lemmas.List.{length-map}
use Rattle.std.proofs.lemmas.Option.{slice_get-map}
use Rattle.col_common.specs.Ascending.{are_below}
use Rattle.col_model.specs.Column.{number_rows, term_cell, cut_content, column}
use Rattle.col_model.specs.ColumnType.{ColumnType, has_terms}
use Rattle.col_model.specs.Limits.{dictionary_length}
use Rattle.col_model.specs.Order.{Order, stack, shuffle}
use Rattle.col_model.specs.Version.{current_version}
use Rattle.col_model.proofs.ListLaws.{item-at}
use Rattle.col_order.specs.Orders.{picks_of}
use Rattle.col_indexer.specs.Merged.{merged_counts, merged_cardinality}
use Rattle.col_terms.specs.Building.{ordered, ordinals, is_too_long}
use Rattle.col_terms.specs.Laws.{TermsAreThoseGiven}
use Rattle.col_terms.specs.TermTable.{dictionary_bytes}
use Rattle.col_text.specs.Texts.{Texts}
use Rattle.col_merge_texts.specs.Items.{terms_of, IsAmong}
use Rattle.col_merge_values.specs.Merges.{picked_row, merged_rows}
use Rattle.col_merge_values.specs.TermColumns.{term_columns, remapped_columns}
use Rattle.col_writer_rows.proofs.TextLemmas.{term_column-read}
use Rattle.col_writer_rows.proofs.DictionaryLemmas.{AreWritten}
use Rattle.col_merge_texts.specs.Noting.{Noted, ord_by, ords_by}
use Rattle.col_merge_texts.specs.Merged.{picked_cells, shapes_of, merged_content, has_long_terms}
use Rattle.col_merge_texts.specs.Taking.{AreTold, IsTaken, IsNowhere, AreNoted}
use Rattle.col_merge_texts.proofs.OrdinalLemmas.{picked-remapped, row-turned}
use Rattle.col_merge_texts.proofs.PickLemmas.{picked-there}
use Rattle.col_merge_texts.proofs.TermLemmas.{picked-cells, noted-merged}

-- ---- the rows

-- each ordinal of a picked row is taken
held-taken : (columns : List Texts) (order : Order) (p : ℕ × ℕ) (o : ℕ) → AllByRecursion AreTold columns
    → IsAmong p (picks_of order) → IsAmong o (picked_row (term_columns columns) p) → IsTaken columns order (p.0, o)
held-taken columns (stack counts) p o told there held =
    picked-there columns (p ∷ []) told (p.0, o) (record { row = p; named = inl refl; segment = refl; held = held })
held-taken columns (shuffle counts rows) p o told there held = record { row = p; named = there; segment = refl; held = held }

module _ (columns : List Texts) (order : Order) (n : Noted) (told : AllByRecursion AreTold columns)
    (h : AreNoted columns (IsTaken columns order) IsNowhere n) (given : TermsAreThoseGiven) where
  abbrev found : List (List ℕ)
  found = ordered n.terms

  abbrev maps : List (List ℕ)
  maps = ords_by (ordinals n.terms) n.ids

  -- a picked row of ordinals of merged terms
  row-is : (p : ℕ × ℕ) → IsAmong p (picks_of order) → (c : Texts) → slice_get columns p.0 ≡ Some c
      → p.0 < length columns → (ids : List (Option ℕ)) → slice_get n.ids p.0 ≡ Some ids
      → (map (term_cell found) (picked_row (remapped_columns columns maps) p) ≡ picked_cells columns p)
      × (are_below (length found) (picked_row (remapped_columns columns maps) p) ≡ true)
  row-is p there c e low ids f =
      let m = map (ord_by (ordinals n.terms)) ids in
      let at : slice_get maps p.0 ≡ Some m = slice_get-map (map (ord_by (ordinals n.terms))) n.ids p.0
      ∙ ap (option_map (map (ord_by (ordinals n.terms)))) f in
      let row = picked-remapped columns maps p.0 p.1 m at low in
      let both = row-turned columns (IsTaken columns order) n h given p.0 c ids e f
      (picked_row (term_columns columns) p) (λ o i. held-taken columns order p o told there i) in
      (ap (map (term_cell found)) row ∙ both.0 ∙ sym (picked-cells columns p c e), ap (are_below (length found)) row ∙ both.1)

  -- ids are kept for each column
  pub ids-long : length n.ids ≡ length columns
  ids-long =
      sym (length-map n.ids length) ∙ ap length h.lengths ∙ length-map (terms_of columns) length
      ∙ length-map columns (λ (c : Texts). c.terms)

  rows-are : (ps : List (ℕ × ℕ)) → ((p : ℕ × ℕ) → IsAmong p ps → IsAmong p (picks_of order))
      → ((p : ℕ × ℕ) → IsAmong p ps → p.0 < length columns)
      → (map (map (term_cell found)) (merged_rows (remapped_columns columns maps) ps)
      ≡ map (picked_cells columns) ps)
      × (list_all (are_below (length found)) (merged_rows (remapped_columns columns maps) ps) ≡ true)
  rows-are [] among low = (refl, refl)
  rows-are (p ∷ ps) among low =
      let l = low p (inl refl) in
      let c = item-at columns p.0 l in
      let ids = item-at n.ids p.0 (omega (arith, l, ids-long)) in
      let row = row-is p (among p (inl refl)) c.0 c.1 l ids.0 ids.1 in
      let rest = rows-are ps (λ q i. among q (inr i)) (λ q i. low q (inr i)) in (
        ap₂ (λ a b. a ∷ b) row.0 rest.0,
        and_from
            (are_below (length found) (picked_row (remapped_columns columns maps) p))
            (list_all (are_below (length found)) (merged_rows (remapped_columns columns maps) ps)) row.1 rest.1,
      )

-- ---- the column

module _ (columns : List Texts) (order : Order) (n : Noted) (told : AllByRecursion AreTold columns)
    (h : AreNoted columns (IsTaken columns order) IsNowhere n) (given : TermsAreThoseGiven) where
  -- the bytes of the terms are too long where those of the merged ones are
  pub long-is : is_too_long n.terms ≡ has_long_terms columns order
  long-is = ap (λ ts. nat_le (2 ^ 32) (dictionary_length ts)) (noted-merged columns order n told h)

  module _ (low : (p : ℕ × ℕ) → IsAmong p (picks_of order) → p.0 < length columns) where
    -- the ordinals of the picked rows, by the ids of the terms that were noted
    abbrev pub merged_ords : List (List ℕ)
    merged_ords = merged_rows (remapped_columns columns (ords_by (ordinals n.terms) n.ids)) (picks_of order)

    content-is : cut_content (ordered n.terms) (term_cell (ordered n.terms))
        (merged_counts order (shapes_of columns), merged_ords) ≡ merged_content columns order
    content-is =
        let cells = (rows-are columns order n told h given (picks_of order) (λ p i. i) low).0 in
        let same = noted-merged columns order n told h in
        λ i. record { cardinality = merged_cardinality order (shapes_of columns); terms = same i; rows = cells i }

    -- the dictionary, the ordinals, and the dictionary's length
    pub column-is : (t : ColumnType) (numbers : List ℕ) → has_terms t ≡ true → AreWritten n.terms
        → number_rows numbers t current_version (length merged_ords) ≡ Some (merged_counts order (shapes_of columns), merged_ords)
        → column ((dictionary_bytes (ordered n.terms) ++ numbers)
        ++ to_le_bytes w32 (dictionary_length (ordered n.terms))) t current_version (length (picks_of order))
        ≡ Some (merged_content columns order)
    column-is t numbers has known read =
        let dict = dictionary_bytes (ordered n.terms) in
        let many : length merged_ords ≡ length (picks_of order) =
        length-map (picks_of order)
        (picked_row (remapped_columns columns (ords_by (ordinals n.terms) n.ids))) in
        let below = (rows-are columns order n told h given (picks_of order) (λ p i. i) low).1 in
        ap (λ k. column ((dict ++ numbers) ++ to_le_bytes w32 k) t current_version (length (picks_of order))) (sym known.long)
        ∙ term_column-read dict numbers t (length (picks_of order)) (ordered n.terms)
        (merged_counts order (shapes_of columns)) merged_ords has (omega (arith, known.long, known.short))
        known.read (ap (number_rows numbers t current_version) (sym many) ∙ read) below
        ∙ ap Some content-is
