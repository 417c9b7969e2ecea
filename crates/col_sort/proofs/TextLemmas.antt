-- Columns of terms in the order of all terms.
use Rattle.std.proofs.Common.{◌≡◌, ◌<◌, ℕ, zero, suc, ◌+◌, Bool, true, List, [], ◌∷◌, map, refl, sym, ◌∙◌, ap, subst, length, replicate, arith, IsPermutation}
use Rattle.std.specs.Prelude.{Option, Some, None, IfSome, slice_get, slice_index_or}
use Rattle.std.specs.List.{AllByRecursion, AllZip}
use Rattle.std.specs.Ordering.{nat_cmp}
use Rattle.std.proofs.lemmas.List.{length-map}
use Rattle.col_model.specs.ColumnType.{has_terms}
use Rattle.col_model.specs.Column.{term_cell}
use Rattle.col_model.specs.Order.{all_rows}
use Rattle.col_model.specs.Sorted.{sorted_items}
use Rattle.col_model.specs.SortOrder.{are_keys_in_order}
use Rattle.col_model.specs.U64List.{joined_lists}
use Rattle.col_model.proofs.SoundTables.{distinct-ascend}
use Rattle.col_terms.specs.Building.{id_of}
use Rattle.col_numbers.specs.NumValues.{num_values_of}
use Rattle.col_column.specs.Columns.{rows_by}
use Rattle.col_text.specs.Texts.{Texts}
use Rattle.col_dynamic.specs.Dynamic.{type_of}
use Rattle.col_dynamic.specs.declared.dynamic_column.DynamicColumn.{DynamicColumn}
use Rattle.col_dynamic.specs.declared.dynamic_column.DynamicColumn.TheVariants as columns
use Rattle.col_merge_slot.specs.Segments.{HaveRows}
use Rattle.col_merge_texts.specs.Items.{terms_of}
use Rattle.col_merge_terms.specs.Numbering.{terms_in_order, merged_places}
use Rattle.col_sort.specs.Firsts.{first_keys}
use Rattle.col_sort_rows.specs.Keys.{rows_by_keys}
use Rattle.col_sort.specs.Columns.{first_in, rows_by_cells}
use Rattle.col_sort.specs.Texts.{IsTextOf, AreTexts, IsToldText, term_keys, all_term_keys, HaveTerms, SortsTexts}
use Rattle.col_sort.proofs.AgreeLemmas.{firsts-agree-within, none-agree, rows-agree}
use Rattle.col_sort.proofs.CellLemmas.{AgreesAs, cells-by-keys}
use Rattle.col_sort.proofs.ColumnLemmas.{first_cells, all_cells, cells-at}
use Rattle.col_sort.proofs.FirstLemmas.{firsts-keep, none-first}
use Rattle.col_sort.proofs.MovedLemmas.{rows-moved}
use Rattle.col_sort.proofs.TermCountLemmas.{terms-many}
use Rattle.col_sort.proofs.TermLemmas.{IsPlace, texts-compare, term-place}

-- ---- one segment

-- the places of terms, by the list of all
module _ (tss : List (List (List ℕ))) where
  text-agrees : (j : ℕ) (t : Texts) → slice_get tss j ≡ Some t.terms → IsToldText t
      → AllZip (AgreesAs (IsPlace (terms_in_order tss)))
      (map (λ row. slice_get row 0) (map (map (term_cell t.terms)) (rows_by t.ords.shape (num_values_of t.ords.values))))
      (term_keys t (map (id_of (terms_in_order tss)) t.terms))
  text-agrees j t at told =
      firsts-agree-within (IsPlace (terms_in_order tss)) (term_cell t.terms)
      (λ ord. slice_index_or (map (id_of (terms_in_order tss)) t.terms) ord 0) (λ v. v < length t.terms)
      (λ v h. term-place tss j v t.terms at h) (rows_by t.ords.shape (num_values_of t.ords.values))
      (firsts-keep (λ v. v < length t.terms) t.ords.shape (num_values_of t.ords.values) told.ordinals.below)

  segment-agrees : (j n : ℕ) (o : Option DynamicColumn) (t : Texts) → IsTextOf n o t → slice_get tss j ≡ Some t.terms
      → IsToldText t → IfSome o (λ c. has_terms (type_of c) ≡ true)
      → AllZip (AgreesAs (IsPlace (terms_in_order tss))) (first_cells o n)
      (term_keys t (map (id_of (terms_in_order tss)) t.terms))
  unfolding first_cells
  segment-agrees j n (Some (columns.Str c)) t is at told h =
      subst (λ u. AllZip (AgreesAs (IsPlace (terms_in_order tss))) (first_cells (Some (columns.Str u)) n)
      (term_keys t (map (id_of (terms_in_order tss)) t.terms))) is (text-agrees j t at told)
  segment-agrees j n (Some (columns.Bytes c)) t is at told h =
      subst (λ u. AllZip (AgreesAs (IsPlace (terms_in_order tss))) (first_cells (Some (columns.Bytes u)) n)
      (term_keys t (map (id_of (terms_in_order tss)) t.terms))) is (text-agrees j t at told)
  segment-agrees j n (Some (columns.Bool c)) t is at told h = absurd cc
  segment-agrees j n (Some (columns.I64 c)) t is at told h = absurd cc
  segment-agrees j n (Some (columns.U64 c)) t is at told h = absurd cc
  segment-agrees j n (Some (columns.IpAddr c)) t is at told h = absurd cc
  segment-agrees j n (Some (columns.DateTime c)) t is at told h = absurd cc
  segment-agrees j n None t is at told h =
      let key = λ (ord : ℕ). slice_index_or (map (id_of (terms_in_order tss)) t.terms) ord 0 in
      let xs = num_values_of t.ords.values in
      subst (AllZip (AgreesAs (IsPlace (terms_in_order tss))) (replicate n None))
      (sym (ap (λ s. first_keys key (rows_by s xs)) is.shape ∙ none-first key n xs))
      (none-agree (IsPlace (terms_in_order tss)) n)

  -- ---- all segments

  -- terms of segments from one on
  texts-agree : (ns : List ℕ) (os : List (Option DynamicColumn)) (ts : List Texts) (j : ℕ) → AreTexts ns os ts
      → ((k : ℕ) (t : Texts) → slice_get ts k ≡ Some t → slice_get tss (j + k) ≡ Some t.terms)
      → AllByRecursion IsToldText ts → HaveTerms os
      → AllZip (λ cs ks. AllZip (AgreesAs (IsPlace (terms_in_order tss))) cs ks) (all_cells os ns)
      (all_term_keys ts (map (map (id_of (terms_in_order tss))) (terms_of ts)))
  unfolding AreTexts all_cells all_term_keys
  texts-agree [] [] [] j are at told h = tt
  texts-agree [] os (t ∷ ts) j are at told h = absurd are
  texts-agree [] (o ∷ os) [] j are at told h = absurd are
  texts-agree (n ∷ ns) [] ts j are at told h = absurd are
  texts-agree (n ∷ ns) (o ∷ os) [] j are at told h = absurd are
  texts-agree (n ∷ ns) (o ∷ os) (t ∷ ts) j are at told h =
      let here : j + 0 ≡ j = omega arith in
      let more = λ (k : ℕ). (let e : j + 1 + k ≡ j + suc k = omega arith in e) in (
        segment-agrees j n o t are.0 (ap (slice_get tss) (sym here) ∙ at 0 t refl) told.0 h.0,
        texts-agree ns os ts (j + 1) are.1 (λ k u e. ap (slice_get tss) (more k) ∙ at (suc k) u e) told.1 h.1,
      )

-- the terms of each
pub terms-at : (ts : List Texts) (k : ℕ) (t : Texts) → slice_get ts k ≡ Some t → slice_get (terms_of ts) k ≡ Some t.terms
terms-at [] k t e = absurd cc
terms-at (u ∷ ts) zero t e = let same : u ≡ t = cc in ap (λ u. Some u.terms) same
terms-at (u ∷ ts) (suc k) t e = terms-at ts k t e

-- ---- rows in order

-- rows by the places of terms are those by the columns' cells
pub texts-sorted : (reversed : Bool) (ns : List ℕ) (os : List (Option DynamicColumn)) (ts : List Texts) (pss : List (List ℕ))
    (rows : List (ℕ × ℕ)) → HaveRows ns os → AreTexts ns os ts → AllByRecursion IsToldText ts → pss ≡ merged_places (terms_of ts)
    → rows ≡ rows_by_keys nat_cmp reversed (all_term_keys ts pss) → SortsTexts ns os reversed rows
unfolding rows_by_cells
texts-sorted reversed ns os ts pss rows h are told places is =
    let tss = terms_of ts in
    let all = terms_in_order tss in
    let kss = all_term_keys ts (merged_places tss) in
    let counted : length (merged_places tss) ≡ length ts =
    length-map tss (map (id_of all)) ∙ length-map ts (λ (t : Texts). t.terms) in
    let many = terms-many ns os ts (merged_places tss) are h counted in
    let by_keys : rows ≡ rows_by_keys nat_cmp reversed kss =
    is ∙ ap (λ pss. rows_by_keys nat_cmp reversed (all_term_keys ts pss)) places in
    let by_cell = λ (a b : ℕ × ℕ). are_keys_in_order reversed (first_in os a) (first_in os b) in
    record {
      moved = subst (IsPermutation (all_rows ns)) (sym by_keys) (rows-moved nat_cmp reversed kss ns many);
      sorted = λ terms. by_keys ∙ sym (ap (λ counts. sorted_items by_cell (all_rows counts)) (sym many)
          ∙ cells-by-keys nat_cmp (IsPlace all) (texts-compare all (distinct-ascend (joined_lists tss))) reversed (first_in os) kss
          (rows-agree (IsPlace all) (first_in os) 0 (all_cells os ns) kss
          (λ j i. (let e : 0 + j ≡ j = omega arith in ap (λ m. first_in os (m, i)) e) ∙ cells-at os ns j i h.segments)
          (texts-agree tss ns os ts 0 are
          (λ k t e. (let z : 0 + k ≡ k = omega arith in ap (slice_get tss) z) ∙ terms-at ts k t e) told terms)));
    }
