-- Rows of tables that are dropped by their places.
use Rattle.std.proofs.Common.{◌≡◌, ℕ, ◌+◌, ◌<◌, ◌≤◌, List, [], ◌∷◌, ◌++◌, length, take, drop, get_or, refl, sym, ap, ◌∙◌, subst, arith}
use Rattle.std.proofs.Math.ListN.{set, length-set}
use Rattle.std.proofs.lemmas.List.{drop_more, take_all, take_more, take_more_set, drop-set-lt, get_or-drop}
use Rattle.std.proofs.lemmas.List.Sums.{sum_by-cons, sum_by_more, sum_by_more_le}
use Rattle.col_segments.specs.Segments.{HeldTable, alive_count, rows_without, without}
use Rattle.col_segments.proofs.RowLemmas.{rows-fewer, tail_of}

-- a table whose rows, counted from a place on, are dropped
abbrev pub dropped_from : List ℕ → ℕ → HeldTable → HeldTable
dropped_from ids first h = record { table = h.table; alive = rows_without ids first h.alive }

count-cons : (h : HeldTable) (hs : List HeldTable) → alive_count (h ∷ hs) ≡ length h.alive + alive_count hs
count-cons h hs = sum_by-cons (λ (h : HeldTable). length h.alive) h hs

-- no more rows stay than there were
pub without-fewer : (ids : List ℕ) (place : ℕ) (hs : List HeldTable) → alive_count (without ids place hs) ≤ alive_count hs
without-fewer ids place [] = omega arith
without-fewer ids place (h ∷ hs) =
    let rest = without ids (place + length h.alive) hs in
    omega (
      arith,
      rows-fewer ids place h.alive,
      without-fewer ids (place + length h.alive) hs,
      count-cons h hs,
      count-cons (dropped_from ids place h) rest,
    )

-- one table more
without-push : (ids : List ℕ) (place : ℕ) (hs : List HeldTable) (h : HeldTable)
    → without ids place (hs ++ h ∷ []) ≡ without ids place hs ++ dropped_from ids (place + alive_count hs) h ∷ []
without-push ids place [] h = ap (λ n. dropped_from ids n h ∷ []) (none_more place)
  where
    none_more : (place : ℕ) → place ≡ place + 0
    none_more place = omega arith
without-push ids place (g ∷ hs) h =
    ap (λ rest. dropped_from ids place g ∷ rest) (without-push ids (place + length g.alive) hs h
    ∙ ap (λ n. without ids (place + length g.alive) hs ++ dropped_from ids n h ∷ []) (omega (arith, count-cons g hs)))

-- Rows of the tables up to a place were dropped.
pub record Drops (ids : List ℕ) (old : List HeldTable) (at first : ℕ) (now : List HeldTable) : Type 0 where
  pub long : length now ≡ length old
  pub counted : first ≡ alive_count (take at old)
  pub front : take at now ≡ without ids 0 (take at old)
  pub back : drop at now ≡ drop at old

-- none was
pub drops-none : (ids : List ℕ) (old : List HeldTable) → Drops ids old 0 0 old
drops-none ids old = record { long = refl; counted = refl; front = refl; back = refl }

module _ (ids : List ℕ) (old now : List HeldTable) (at first : ℕ) (d : HeldTable) (was : Drops ids old at first now)
    (within : at < length now) where
  table-inside : at < length old
  table-inside = omega (arith, was.long, within)

  table-is : get_or now at d ≡ get_or old at d
  table-is =
      sym (ap (λ (n : ℕ). get_or now n d) (add_none at)) ∙ sym (get_or-drop at now 0 d)
      ∙ ap (λ (l : List HeldTable). get_or l 0 d) was.back ∙ get_or-drop at old 0 d ∙ ap (λ (n : ℕ). get_or old n d) (add_none at)
    where
      add_none : (n : ℕ) → n + 0 ≡ n
      add_none n = omega arith

  -- the places so far, and those of one table more, are places of all
  pub places-fit : first + length (get_or now at d).alive ≤ alive_count old
  places-fit =
      subst (λ (h : HeldTable). first + length h.alive ≤ alive_count old) (sym table-is)
      (omega (arith, was.counted, sum_by_more_le (λ (h : HeldTable). length h.alive) old at d table-inside))

  counted-more : first + length (get_or now at d).alive ≡ alive_count (take (at + 1) old)
  counted-more =
      subst (λ (h : HeldTable). first + length h.alive ≡ alive_count (take (at + 1) old)) (sym table-is)
      (omega (arith, was.counted, sum_by_more (λ (h : HeldTable). length h.alive) old at d table-inside))

  tables-behind : drop (at + 1) now ≡ drop (at + 1) old
  tables-behind = ap tail_of (sym (drop_more now at d within) ∙ was.back ∙ drop_more old at d table-inside)

  front-more : without ids 0 (take (at + 1) old)
      ≡ without ids 0 (take at old) ++ dropped_from ids (alive_count (take at old)) (get_or old at d) ∷ []
  front-more =
      ap (without ids 0) (take_more old at d table-inside) ∙ without-push ids 0 (take at old) (get_or old at d)
      ∙ ap (λ n. without ids 0 (take at old) ++ dropped_from ids n (get_or old at d) ∷ []) (zero_more (alive_count (take at old)))
    where
      zero_more : (n : ℕ) → 0 + n ≡ n
      zero_more n = omega arith

  -- one table more
  pub drops-more : Drops ids old (at + 1) (first + length (get_or now at d).alive) (set now at (dropped_from ids first (get_or now at d)))
  drops-more = record {
    long = length-set now at (dropped_from ids first (get_or now at d)) ∙ was.long;
    counted = counted-more;
    front =
        take_more_set now at (dropped_from ids first (get_or now at d)) within
        ∙ (λ i. was.front i ++ dropped_from ids (was.counted i) (table-is i) ∷ []) ∙ sym front-more;
    back = drop-set-lt (at + 1) now at (dropped_from ids first (get_or now at d)) (omega arith) ∙ tables-behind;
  }

-- all tables
pub drops-all : (ids : List ℕ) (old now : List HeldTable) (at first : ℕ) → Drops ids old at first now → length now ≤ at
    → now ≡ without ids 0 old
drops-all ids old now at first dropped whole =
    sym (take_all at now whole) ∙ dropped.front ∙ ap (without ids 0) (take_all at old (omega (arith, dropped.long, whole)))
