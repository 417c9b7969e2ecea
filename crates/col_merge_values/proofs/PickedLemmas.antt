-- Picked rows that have values, where these start, and the values, row by row.
use Rattle.std.proofs.Common.{◌≡◌, ℕ, ◌+◌, ◌-◌, ◌<◌, ◌≤◌, ◌^◌, List, [], ◌∷◌, ◌++◌, length, map, drop, get_or, sum, Some, slice_get, slice_range, true, take, append_assoc, append-nil, refl, sym, ap, subst, ◌∙◌, inl, inr, arith}
use Rattle.std.specs.List.{list_all}
use Rattle.std.proofs.lemmas.Bool.{cases_order}
use Rattle.std.proofs.lemmas.List.{drop_more, drop_all, get_or-map, length-map, length-append, length-drop, length-take-le}
use Rattle.std.proofs.lemmas.Option.{get_or_from_slice_get}
use Rattle.col_model.specs.Index.{Counts}
use Rattle.col_model.specs.Order.{has_row, picks}
use Rattle.col_model.specs.Positions.{rows_with_value, starts_after, starts_of, picked_counts}
use Rattle.col_model.specs.U64List.{joined_lists}
use Rattle.col_model.proofs.MergedSound.{chosen-is}
use Rattle.col_order.specs.Orders.{counts_of, picks_of}
use Rattle.col_index.proofs.CountLaws.{set_counts-rows, offset_counts-rows, offset_counts-starts}
use Rattle.col_index.proofs.RowsLaws.{rows_with_value-from}
use Rattle.col_indexer.specs.Counted.{rows_behind}
use Rattle.col_indexer.specs.Merged.{IsMerged}
use Rattle.col_indexer.specs.Spelling.{Index, full_index, optional_index, multivalued_index, IsIndex}
use Rattle.col_indexer.proofs.CountedLemmas.{rows_behind-from, rows_behind-none, rows_behind-some, starts_after-some}
use Rattle.col_column.specs.Columns.{AreOf}
use Rattle.col_merge_values.specs.Merges.{SegmentColumns, AreColumns, segment_values, picked_row, merged_rows, merged_values, Merge, IsMerge, values_of}
use Rattle.col_indexer.specs.Written.{HasLists}
use Rattle.col_merge_values.specs.Picked.{ArePicked}
use Rattle.col_merge_values.proofs.MergedRowLemmas.{picked-lengths, length-joined, length-merged, picks-there}

-- Of lists the first k are told by their places, their starts and their values.
pub record AreTold {T : Type 0} (lists : List (List T)) (k : ℕ) (rows starts : List ℕ) (values : List T) : Type 0 where
  pub rows_left : rows ++ rows_behind k (map length (drop k lists)) ≡ rows_with_value (map length lists)
  pub starts_left : starts ++ starts_after (length values) (map length (drop k lists)) ≡ starts_of (map length lists)
  pub values_left : values ++ joined_lists (drop k lists) ≡ joined_lists lists

-- none yet
told-none : {T : Type 0} (lists : List (List T)) → AreTold lists 0 [] [] []
unfolding starts_of
told-none lists = record {
  rows_left = rows_behind-from 0 (map length lists) ∙ sym (rows_with_value-from (map length lists));
  starts_left = refl;
  values_left = refl;
}

-- before the first row none is told
pub told-start : {T : Type 0} (lists : List (List T)) (rows starts : List ℕ) (values : List T) → rows ≡ []
    → starts ≡ [] → values ≡ [] → AreTold lists 0 rows starts values
told-start lists rows starts values r s v =
    subst (λ rs. AreTold lists 0 rs starts values) (sym r) (subst (λ ss. AreTold lists 0 [] ss values) (sym s)
    (subst (AreTold lists 0 [] []) (sym v) (told-none lists)))

-- an empty list
told-empty : {T : Type 0} (lists : List (List T)) (k : ℕ) (rows starts : List ℕ) (values : List T)
    → drop k lists ≡ [] ∷ drop (k + 1) lists → AreTold lists k rows starts values
    → AreTold lists (k + 1) rows starts values
told-empty lists k rows starts values e h = record {
  rows_left =
      ap (λ l. rows ++ l)
      (sym (ap (λ ls. rows_behind k (map length ls)) e ∙ rows_behind-none k (map length (drop (k + 1) lists))))
      ∙ h.rows_left;
  starts_left =
      ap (λ n. starts ++ starts_after n (map length (drop (k + 1) lists))) (omega arith)
      ∙ ap (λ ls. starts ++ starts_after (length values) (map length ls)) (sym e) ∙ h.starts_left;
  values_left = ap (λ ls. values ++ joined_lists ls) (sym e) ∙ h.values_left;
}

-- a list that has items
told-some : {T : Type 0} (lists : List (List T)) (k : ℕ) (rows starts : List ℕ) (values : List T) (run : List T)
    → 0 < length run → drop k lists ≡ run ∷ drop (k + 1) lists → AreTold lists k rows starts values
    → AreTold lists (k + 1) (rows ++ k ∷ []) (starts ++ length values ∷ []) (values ++ run)
told-some lists k rows starts values [] some e h = absurd (omega (arith, some))
told-some lists k rows starts values (x ∷ xs) some e h = record {
  rows_left =
      append_assoc rows (k ∷ []) (rows_behind (k + 1) cs)
      ∙ ap (λ l. rows ++ l) (sym (ap (λ ls. rows_behind k (map length ls)) e ∙ rows_behind-some k (length xs) cs))
      ∙ h.rows_left;
  starts_left =
      append_assoc starts (length values ∷ []) (starts_after (length (values ++ x ∷ xs)) cs)
      ∙ ap (λ n. starts ++ length values ∷ starts_after n cs) (length-append values (x ∷ xs))
      ∙ ap (λ l. starts ++ l) (sym (ap (λ ls. starts_after (length values) (map length ls)) e
      ∙ starts_after-some (length values) (length xs) cs))
      ∙ h.starts_left;
  values_left =
      append_assoc values (x ∷ xs) (joined_lists (drop (k + 1) lists))
      ∙ ap (λ ls. values ++ joined_lists ls) (sym e) ∙ h.values_left;
}
  where
    cs : List ℕ
    cs = map length (drop (k + 1) lists)

-- ---- picked rows

-- a run from one position to another has items
pub run-long : {T : Type 0} (xs : List T) (a b : ℕ) → a ≤ b → b ≤ length xs → (a ≡ b → ⊥) → 0 < length (slice_range xs a b)
run-long xs a b order within apart =
    let long = length-take-le (b - a) (drop a xs) (omega (arith, within, order, length-drop a xs)) in
    let some : a < b = elim (cases_order a b)
    [ inl e ↦ absurd (apart e) | inr (inl l) ↦ l | inr (inr g) ↦ absurd (omega (arith, g, order)) ] in
    omega (arith, long, some)

-- the place of a new run
pub started : (starts later : List ℕ) (n m : ℕ) → later ≡ starts ++ n ∷ [] → n ≡ m → later ≡ starts ++ m ∷ []
started starts later n m e s = e ∙ ap (λ k. starts ++ k ∷ []) s

module _ {T : Type 0} (c : SegmentColumns T) (counts : List ℕ) (are : AreColumns counts c) (picks : List (ℕ × ℕ))
    (all : list_all (has_row counts) picks ≡ true) where
  abbrev lists : List (List T)
  lists = merged_rows c picks

  run-at : (k : ℕ) (p : ℕ × ℕ) (a b : ℕ) → slice_get picks k ≡ Some p → k < length picks
      → AreOf (segment_values c p.0) (a, b) (picked_row c p)
      → drop k lists ≡ slice_range (segment_values c p.0) a b ∷ drop (k + 1) lists
  run-at k p a b read h of =
      let long : k < length lists = omega (arith, length-map picks (picked_row c)) in
      let here : get_or lists k [] ≡ picked_row c p =
      get_or-map (picked_row c) picks k p [] h ∙ ap (picked_row c) (get_or_from_slice_get picks k p p read) in
      drop_more lists k [] long ∙ ap (λ ys. ys ∷ drop (k + 1) lists) (here ∙ sym of.values)

  -- a row without values
  pub picked-empty : (k : ℕ) (p : ℕ × ℕ) (a b : ℕ) (rows starts : List ℕ) (values : List T)
      → slice_get picks k ≡ Some p → k < length picks → AreOf (segment_values c p.0) (a, b) (picked_row c p) → a ≡ b
      → AreTold lists k rows starts values → AreTold lists (k + 1) rows starts values
  picked-empty k p a b rows starts values read h of none told =
      let nothing : b - a ≡ 0 = omega arith in
      told-empty lists k rows starts values
      (run-at k p a b read h of ∙ ap (λ n. take n (drop a (segment_values c p.0)) ∷ drop (k + 1) lists) nothing)
      told

  -- a row with values
  pub picked-some : (k : ℕ) (p : ℕ × ℕ) (a b : ℕ) (rows starts more later : List ℕ) (values joined : List T)
      → slice_get picks k ≡ Some p → k < length picks → AreOf (segment_values c p.0) (a, b) (picked_row c p)
      → 0 < length (slice_range (segment_values c p.0) a b) → more ≡ rows ++ k ∷ []
      → later ≡ starts ++ length values ∷ [] → joined ≡ values ++ slice_range (segment_values c p.0) a b
      → AreTold lists k rows starts values → AreTold lists (k + 1) more later joined
  picked-some k p a b rows starts more later values joined read h of some r s v told =
      subst (λ rs. AreTold lists (k + 1) rs later joined) (sym r)
      (subst (λ ss. AreTold lists (k + 1) (rows ++ k ∷ []) ss joined) (sym s)
      (subst (AreTold lists (k + 1) (rows ++ k ∷ []) (starts ++ length values ∷ [])) (sym v)
      (told-some lists k rows starts values (slice_range (segment_values c p.0) a b) some (run-at k p a b read h of) told)))

  -- fewer values than are counted stand in front
  pub told-few : (k : ℕ) (rows starts : List ℕ) (values : List T) → AreTold lists k rows starts values
      → length values ≤ sum (picked_counts c.shapes picks)
  told-few k rows starts values told =
      omega (
        arith,
        ap length told.values_left,
        length-append values (joined_lists (drop k lists)),
        length-joined lists,
        ap sum (picked-lengths c counts are picks all),
      )

  -- all rows
  pub picked-all : (k : ℕ) (rows starts later : List ℕ) (values : List T) → length picks ≤ k
      → later ≡ starts ++ length values ∷ [] → AreTold lists k rows starts values
      → ArePicked c picks rows later values
  unfolding merged_values
  picked-all k rows starts later values h s told =
      let none : drop k lists ≡ [] = drop_all k lists (omega (arith, h, length-map picks (picked_row c))) in
      let counted = picked-lengths c counts are picks all in
      record {
        rows_are =
            sym (append-nil rows) ∙ ap (λ ls. rows ++ rows_behind k (map length ls)) (sym none) ∙ told.rows_left
            ∙ ap rows_with_value counted;
        starts_are =
            s ∙ ap (λ ls. starts ++ starts_after (length values) (map length ls)) (sym none) ∙ told.starts_left
            ∙ ap starts_of counted;
        values_are = sym (append-nil values) ∙ ap (λ ls. values ++ joined_lists ls) (sym none) ∙ told.values_left;
      }

-- ---- an index that counts the picked rows

-- its lists are what was picked
pub has-lists : {T : Type 0} (m : Merge T) (i : Index) (rows starts : List ℕ) (values : List T) → IsIndex i
    → IsMerged m.order m.columns.shapes i → ArePicked m.columns (picks_of m.order) rows starts values
    → HasLists i rows starts
has-lists m full_index rows starts values is merged picked = tt
has-lists m (optional_index s) rows starts values is merged picked =
    let same = ap (λ (cs : Counts). cs.of_rows) (chosen-is _ _ _ merged) in
    picked.rows_are ∙ ap rows_with_value (sym same) ∙ set_counts-rows s is.rows
has-lists m (multivalued_index o) rows starts values is merged picked =
    let same = ap (λ (cs : Counts). cs.of_rows) (chosen-is _ _ _ merged) in (
      picked.rows_are ∙ ap rows_with_value (sym same) ∙ offset_counts-rows o is.offsets,
      picked.starts_are ∙ ap starts_of (sym same) ∙ offset_counts-starts o is.offsets,
    )

-- fewer values are counted than 32 bits count
pub counted-few : {T : Type 0} (m : Merge T) → IsMerge m
    → picks m.order (counts_of m.order) ≡ Some (picks_of m.order) → length (values_of m) < 2 ^ 32
    → sum (picked_counts m.columns.shapes (picks_of m.order)) < 2 ^ 32
counted-few m is all few = omega (arith, few, length-merged m.columns (counts_of m.order) is (picks_of m.order) (picks-there m.order all))
