-- The ids of the values of picked rows, one after another.
use Rattle.std.proofs.Common.{◌≡◌, ℕ, ◌+◌, List, [], ◌∷◌, ◌++◌, map, length, take, unwrap_or, Option, Some, slice_get, append_assoc, append-nil, refl, sym, ap, ◌∙◌, subst}
use Rattle.std.proofs.lemmas.List.{map-append, take_more}
use Rattle.std.proofs.lemmas.Option.{slice_get-get_or, slice_get_within}
use Rattle.col_common.specs.Ascending.{AreBelow}
use Rattle.col_model.specs.U64List.{joined_lists}
use Rattle.col_model.proofs.CutLaws.{joined_lists-push}
use Rattle.col_text.specs.Texts.{Texts}
use Rattle.col_merge_texts.specs.Items.{item_at}
use Rattle.col_merge_values.specs.Merges.{picked_row}
use Rattle.col_merge_values.specs.TermColumns.{term_columns}
use Rattle.col_merge_texts.specs.Noting.{Noted, Notes}
use Rattle.col_merge_texts.specs.Taking.{Place, AreNoted}
use Rattle.col_merge_texts.specs.Ids.{row_places, places_of, AreIds}
use Rattle.col_merge_texts.proofs.NoteLemmas.{id-below}

-- ---- ids of places

-- a place more
ids-more : (held : List (List (Option ℕ))) (ps : List Place) (p : Place) (ids : List ℕ) (id : ℕ)
    → AreIds held ps ids → item_at held p ≡ Some (Some id) → AreIds held (ps ++ p ∷ []) (ids ++ id ∷ [])
ids-more held ps p ids id h e =
    map-append (item_at held) ps (p ∷ []) ∙ (λ i. h i ++ e i ∷ []) ∙ sym (map-append (λ k. Some (Some k)) ids (id ∷ []))

-- places that keep theirs
ids-kept : (held new : List (List (Option ℕ)))
    → ((q : Place) (id : ℕ) → item_at held q ≡ Some (Some id) → item_at new q ≡ Some (Some id))
    → (ps : List Place) (ids : List ℕ) → AreIds held ps ids → AreIds new ps ids
ids-kept held new keeps [] [] h = refl
ids-kept held new keeps [] (id ∷ ids) h = absurd (cc)
ids-kept held new keeps (p ∷ ps) [] h = absurd (cc)
ids-kept held new keeps (p ∷ ps) (id ∷ ids) h =
    let first : item_at held p ≡ Some (Some id) = cc in
    let rest : map (item_at held) ps ≡ map (λ k. Some (Some k)) ids = cc in
    λ i. keeps p id first i ∷ ids-kept held new keeps ps ids rest i

-- each is the id of a term
pub ids-low : (columns : List Texts) (Whole Left : Place → Type 0) (n : Noted) → AreNoted columns Whole Left n
    → (ps : List Place) (ids : List ℕ) → AreIds n.ids ps ids → AreBelow (length n.terms) ids
ids-low columns Whole Left n noted [] [] h = tt
ids-low columns Whole Left n noted [] (id ∷ ids) h = absurd (cc)
ids-low columns Whole Left n noted (p ∷ ps) [] h = absurd (cc)
ids-low columns Whole Left n noted (p ∷ ps) (id ∷ ids) h =
    let first : item_at n.ids p ≡ Some (Some id) = cc in
    let rest : map (item_at n.ids) ps ≡ map (λ k. Some (Some k)) ids = cc in
    (id-below columns Whole Left n noted p id first, ids-low columns Whole Left n noted ps ids rest)

-- ---- those of rows

-- before the first row
pub ids-none : (columns : List Texts) (n : Noted) (ids : List ℕ) → ids ≡ [] → AreIds n.ids (places_of columns []) ids
ids-none columns n ids e = ap (map (λ k. Some (Some k))) (sym e)

-- Of the ordinals of a row, which lies in a segment, some were found, and others are left. The places
-- of the rows before it, and of what was found, have these ids.
pub record TakesIds (columns : List Texts) (rows : List (ℕ × ℕ)) (i segment : ℕ) (left : List ℕ) (n : Noted) (ids : List ℕ) : Type 0 where
  pub row : ℕ × ℕ
  pub named : slice_get rows i ≡ Some row
  pub inside : segment ≡ row.0
  pub found : List ℕ
  pub whole : found ++ left ≡ picked_row (term_columns columns) row
  pub are : AreIds n.ids (places_of columns (take i rows) ++ map (λ ord. (segment, ord)) found) ids

-- before the first value of a row the ids of the rows before it are known
pub ids-start :
    (columns : List Texts) (rows : List (ℕ × ℕ)) (i : ℕ) (row : ℕ × ℕ) (left : List ℕ) (n : Noted) (ids : List ℕ)
    → slice_get rows i ≡ Some row → left ≡ picked_row (term_columns columns) row
    → AreIds n.ids (places_of columns (take i rows)) ids → TakesIds columns rows i row.0 left n ids
ids-start columns rows i row left n ids named e h = record {
  row = row;
  named = named;
  inside = refl;
  found = [];
  whole = e;
  are = subst (λ ps. AreIds n.ids ps ids) (sym (append-nil (places_of columns (take i rows)))) h;
}

module _ (columns : List Texts) (rows : List (ℕ × ℕ)) (i segment : ℕ) where
  abbrev before : List Place
  before = places_of columns (take i rows)

  abbrev at : ℕ → Place
  at ord = (segment, ord)

  -- the next of them
  pub ids-next : (left next : List ℕ) (o : ℕ) (t : List ℕ) (n m : Noted) (ids pushed : List ℕ) (id : ℕ)
      → left ≡ o ∷ next → Notes (segment, o) t n m → item_at m.ids (segment, o) ≡ Some (Some id)
      → pushed ≡ ids ++ id ∷ [] → TakesIds columns rows i segment left n ids
      → TakesIds columns rows i segment next m pushed
  ids-next left next o t n m ids pushed id steps notes e p h = subst (TakesIds columns rows i segment next m) (sym p) (record {
    row = h.row;
    named = h.named;
    inside = h.inside;
    found = h.found ++ o ∷ [];
    whole = append_assoc h.found (o ∷ []) next ∙ ap (λ os. h.found ++ os) (sym steps) ∙ h.whole;
    are =
        subst (λ ps. AreIds m.ids ps (ids ++ id ∷ [])) placed (ids-more m.ids (before ++ map at h.found)
        (segment, o) ids id (ids-kept n.ids m.ids notes.keeps (before ++ map at h.found) ids h.are) e);
  })
    where
      placed : (before ++ map at h.found) ++ (segment, o) ∷ [] ≡ before ++ map at (h.found ++ o ∷ [])
      placed = append_assoc before (map at h.found) ((segment, o) ∷ []) ∙ ap (λ ps. before ++ ps) (sym (map-append at h.found (o ∷ [])))

  -- behind the last of them
  pub ids-end : (left : List ℕ) (n : Noted) (ids : List ℕ) → left ≡ [] → TakesIds columns rows i segment left n ids
      → AreIds n.ids (places_of columns (take (i + 1) rows)) ids
  ids-end left n ids none h =
      subst (λ ps. AreIds n.ids ps ids) (ap (λ os. before ++ map at os) all
      ∙ ap (λ k. before ++ map (λ ord. (k, ord)) (picked_row (term_columns columns) h.row)) h.inside ∙ sym more)
      h.are
    where
      all : h.found ≡ picked_row (term_columns columns) h.row
      all = sym (append-nil h.found) ∙ ap (λ os. h.found ++ os) (sym none) ∙ h.whole

      one-more : take (i + 1) rows ≡ take i rows ++ h.row ∷ []
      one-more =
          let low = slice_get_within rows i h.row h.named in
          take_more rows i h.row low ∙ ap (λ o. take i rows ++ unwrap_or o h.row ∷ []) (sym (slice_get-get_or rows i h.row low) ∙ h.named)

      more : places_of columns (take (i + 1) rows) ≡ before ++ row_places columns h.row
      more =
          ap (places_of columns) one-more
          ∙ ap joined_lists (map-append (row_places columns) (take i rows) (h.row ∷ []))
          ∙ joined_lists-push (map (row_places columns) (take i rows)) (row_places columns h.row)
