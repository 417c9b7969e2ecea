-- Documents that are rows of one run, and their ranks.
use Rattle.std.proofs.Common.{◌≡◌, ℕ, suc, ◌+◌, ◌-◌, ◌<◌, ◌≤◌, ◌&&◌, nat_le, nat_lt, cond, true, false, List, [], ◌∷◌, ◌++◌, length, map, take, drop, set, get_or, slice_range, refl, sym, ap, subst, ◌∙◌, append_assoc, append-nil, inl, inr, arith}
use Rattle.std.proofs.lemmas.Bool.{cases_lt, true≢false, and_parts, and_from, leb-true, ltb-true, le-leb, lt-ltb, le-ltb}
use Rattle.std.proofs.lemmas.List.{get_or-drop, get_or-take, length-drop, length-take-le, take_more, take_more_set, map-append}
use Rattle.std.proofs.lemmas.List.Elements.{filter-append}
use Rattle.std.proofs.Math.Seq.{take-add}
use Rattle.col_model.specs.Positions.{rank}
use Rattle.col_index.specs.Sets.{holds, held, held_ranks}
use Rattle.col_index.specs.RunPlaces.{IsRunPlace, IsNear, IsRowOf, AreRowsOf, rank_in}
use Rattle.col_index.specs.declared.run_places.Run.{Run}
use Rattle.col_index.specs.declared.run_places.RunPlace.{RunPlace}
use Rattle.col_index.proofs.SelectLemmas.{same_at}

-- a test tells whether a row is one of a run
pub row_of : (r : Run) (row : ℕ) → (nat_le r.start row && nat_lt row (r.start + r.len)) ≡ true → IsRowOf row r
row_of r row e =
    let parts = and_parts (nat_le r.start row) (nat_lt row (r.start + r.len)) e in
    record { from = leb-true r.start row parts.0; upto = ltb-true row (r.start + r.len) parts.1 }

module _ (rows : List ℕ) (p : RunPlace) (t : IsRunPlace rows p) where
  -- a row of the place's run has a value, and its rank
  row_held : (row : ℕ) → IsRowOf row p.run → holds rows row ≡ true
  row_held row i =
      let found = t.rows_near row (record { behind = i.from; before = omega (arith, i.upto, t.whole) }) in
      found.part.held ∙ lt-ltb (row - p.run.start) p.run.len (omega (arith, i.from, i.upto))

  row_ranked : (row : ℕ) → IsRowOf row p.run → rank rows row ≡ rank_in p.run row
  row_ranked row i =
      let found = t.rows_near row (record { behind = i.from; before = omega (arith, i.upto, t.whole) }) in
      found.part.count ∙ omega (arith, i.from, i.upto)

  -- another row of the place has none
  pub row_free : (row : ℕ) → IsNear p row → (nat_le p.run.start row && nat_lt row (p.run.start + p.run.len)) ≡ false
      → holds rows row ≡ false
  row_free row near e = elim (cases_lt row (p.run.start + p.run.len)) [
    | inl inside ↦
        absurd (true≢false (sym (and_from (nat_le p.run.start row) (nat_lt row (p.run.start + p.run.len))
        (le-leb p.run.start row near.behind) (lt-ltb row (p.run.start + p.run.len) inside)) ∙ e))
    | inr behind ↦
        (t.rows_near row near).part.held
        ∙ le-ltb (row - p.run.start) p.run.len (omega (arith, behind, near.behind))
  ]

  -- rows of the run are all held, and have ranks of the run
  all_held : (docs : List ℕ) → AreRowsOf docs p.run → held rows docs ≡ docs
  all_held [] a = refl
  all_held (doc ∷ docs) a =
      ap (λ b. cond b (doc ∷ held rows docs) (held rows docs)) (row_held doc (a 0 (omega arith)))
      ∙ ap (λ xs. doc ∷ xs) (all_held docs (λ k h. a (suc k) (omega arith)))

  all_ranked : (docs : List ℕ) → AreRowsOf docs p.run → map (rank rows) docs ≡ map (rank_in p.run) docs
  all_ranked [] a = refl
  all_ranked (doc ∷ docs) a =
      ap (λ x. x ∷ map (rank rows) docs) (row_ranked doc (a 0 (omega arith)))
      ∙ ap (λ xs. rank_in p.run doc ∷ xs) (all_ranked docs (λ k h. a (suc k) (omega arith)))

  -- ---- of documents those from a place up to another one

  module _ (docs : List ℕ) (from at : ℕ) (order : from ≤ at) (within : at ≤ length docs)
      (some : (k : ℕ) → from ≤ k → k < at → IsRowOf (get_or docs k 0) p.run) where
    abbrev part : List ℕ
    part = slice_range docs from at

    pub part_rows : AreRowsOf part p.run
    part_rows k h =
        let short : k < at - from = omega (arith, h, part_length) in
        let same : get_or part k 0 ≡ get_or docs (from + k) 0 =
        get_or-take (at - from) (drop from docs) k 0 short ∙ get_or-drop from docs k 0 in
        subst (λ row. IsRowOf row p.run) (sym same) (some (from + k) (omega arith) (omega arith))
      where
        part_length : length part ≡ at - from
        part_length = length-take-le (at - from) (drop from docs) (omega (arith, length-drop from docs))

    front : take at docs ≡ take from docs ++ part
    front =
        let sum : at ≡ from + (at - from) = omega arith in
        ap (λ n. take n docs) sum ∙ take-add from (at - from) docs

    -- they are pushed
    pub part_pushed : (old found new : List ℕ) → found ≡ old ++ held rows (take from docs) → new ≡ found ++ part
        → new ≡ old ++ held rows (take at docs)
    part_pushed old found new f n =
        n ∙ ap (λ xs. xs ++ part) f ∙ append_assoc old (held rows (take from docs)) part
        ∙ ap (λ xs. old ++ (held rows (take from docs) ++ xs)) (sym (all_held part part_rows))
        ∙ ap (λ xs. old ++ xs) (sym (ap (held rows) front ∙ filter-append (holds rows) (take from docs) part))

    -- and their ranks
    pub part_ranked : (old found new : List ℕ) → found ≡ old ++ held_ranks rows (take from docs)
        → new ≡ found ++ map (rank_in p.run) part → new ≡ old ++ held_ranks rows (take at docs)
    part_ranked old found new f n =
        let whole : held rows (take at docs) ≡ held rows (take from docs) ++ part =
        ap (held rows) front ∙ filter-append (holds rows) (take from docs) part
        ∙ ap (λ xs. held rows (take from docs) ++ xs) (all_held part part_rows) in
        n ∙ ap (λ xs. xs ++ map (rank_in p.run) part) f
        ∙ append_assoc old (held_ranks rows (take from docs)) (map (rank_in p.run) part)
        ∙ ap (λ xs. old ++ (held_ranks rows (take from docs) ++ xs)) (sym (all_ranked part part_rows))
        ∙ ap (λ xs. old ++ xs) (sym (ap (map (rank rows)) whole
        ∙ map-append (rank rows) (held rows (take from docs)) part))

-- a document without a value leaves what is held
pub held_free : (rows docs : List ℕ) (at : ℕ) → at < length docs → holds rows (get_or docs at 0) ≡ false
    → held rows (take at docs) ≡ held rows (take (at + 1) docs)
held_free rows docs at h e =
    sym (ap (held rows) (take_more docs at 0 h)
    ∙ filter-append (holds rows) (take at docs) (get_or docs at 0 ∷ [])
    ∙ ap (λ b. held rows (take at docs) ++ cond b (get_or docs at 0 ∷ []) []) e
    ∙ append-nil (held rows (take at docs)))

-- ---- rows of a run that become their ranks, one after another

module _ (r : Run) (old xs : List ℕ) (from at : ℕ) (order : from ≤ at) (within : at < length old)
    (rest : drop at xs ≡ drop at old) (a : AreRowsOf (drop from old) r) where
  -- what isn't a rank yet is a row of the run
  pub next_row_of : IsRowOf (get_or xs at 0) r
  next_row_of =
      let sum : from + (at - from) ≡ at = omega arith in
      let same : get_or (drop from old) (at - from) 0 ≡ get_or xs at 0 =
      get_or-drop from old (at - from) 0 ∙ ap (λ k. get_or old k 0) sum ∙ sym (same_at old xs at within rest) in
      subst (λ row. IsRowOf row r) same (a (at - from) (omega (arith, length-drop from old)))

  -- one more is
  pub ranked_front : (value : ℕ) → length xs ≡ length old → value ≡ rank_in r (get_or xs at 0)
      → take at xs ≡ take from old ++ map (rank_in r) (take (at - from) (drop from old))
      → take (at + 1) (set xs at value) ≡ take from old ++ map (rank_in r) (take (at + 1 - from) (drop from old))
  ranked_front value long v e =
      let sum : from + (at - from) ≡ at = omega arith in
      let up : at - from + 1 ≡ at + 1 - from = omega arith in
      let tail : List ℕ = drop from old in
      let m : ℕ = at - from in
      let same : get_or xs at 0 ≡ get_or tail m 0 =
      same_at old xs at within rest ∙ ap (λ k. get_or old k 0) (sym sum) ∙ sym (get_or-drop from old m 0) in
      take_more_set xs at value (omega arith) ∙ ap (λ l. l ++ value ∷ []) e
      ∙ append_assoc (take from old) (map (rank_in r) (take m tail)) (value ∷ [])
      ∙ ap (λ k. take from old ++ (map (rank_in r) (take m tail) ++ k ∷ [])) (v ∙ ap (rank_in r) same)
      ∙ ap (λ l. take from old ++ l) (sym (map-append (rank_in r) (take m tail) (get_or tail m 0 ∷ [])))
      ∙ ap (λ l. take from old ++ map (rank_in r) l) (sym (take_more tail m 0 (omega (arith, length-drop from old))))
      ∙ ap (λ n. take from old ++ map (rank_in r) (take n tail)) up
