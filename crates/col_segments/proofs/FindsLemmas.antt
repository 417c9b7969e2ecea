-- The places of rows of all segments, one segment after another.
use Rattle.std.proofs.Common.{◌≡◌, ℕ, ◌+◌, ◌<◌, ◌≤◌, List, [], ◌∷◌, ◌++◌, map, length, take, get_or, refl, sym, ap, ◌∙◌, subst, arith, append_assoc}
use Rattle.std.specs.List.{AllZip}
use Rattle.std.proofs.lemmas.List.{append-nil, take_all, take_more}
use Rattle.std.proofs.lemmas.List.Sums.{sum_by_more, sum_by_more_le}
use Rattle.col_model.specs.ColumnType.{ColumnType}
use Rattle.col_model.specs.Table.{Table}
use Rattle.col_places.specs.Places.{places_of}
use Rattle.col_places.proofs.WalkLemmas.{places-append}
use Rattle.col_program.specs.Queries.{End}
use Rattle.col_segments.specs.Found.{has_value, places_between}
use Rattle.col_segments.specs.Live.{live, row_in, with_alive}
use Rattle.col_segments.specs.Segments.{HeldTable, alive_count}
use Rattle.col_segments.proofs.KeptLemmas.{count-more, none-more}
use Rattle.col_segments.proofs.LiveLemmas.{live-length}
use Rattle.col_segments.proofs.ReaderLemmas.{kept-at, kept_tables, place-within}

-- the segments up to a place were looked at
pub record IsUpto (hs : List HeldTable) (at first next : ℕ) : Type 0 where
  pub counted : first ≡ alive_count (take at hs)
  pub next_is : next ≡ length (with_alive (take at hs))

live-more : (hs : List HeldTable) (h : HeldTable) → live (hs ++ h ∷ []) ≡ live hs ++ map (row_in h.table) h.alive
live-more [] h = append-nil (map (row_in h.table) h.alive)
live-more (g ∷ hs) h =
    ap (λ rows. map (row_in g.table) g.alive ++ rows) (live-more hs h)
    ∙ sym (append_assoc (map (row_in g.table) g.alive) (live hs) (map (row_in h.table) h.alive))

module _ (hs : List HeldTable) (at first next : ℕ) (d : HeldTable) (was : IsUpto hs at first next) (within : at < length hs) where
  -- the rows of the segment there are counted among all
  pub upto-room : first + length (get_or hs at d).alive ≤ alive_count hs
  upto-room = omega (arith, was.counted, sum_by_more_le (λ (h : HeldTable). length h.alive) hs at d within)

  -- one segment more
  pub upto-some : 0 < length (get_or hs at d).alive → IsUpto hs (at + 1) (first + length (get_or hs at d).alive) (next + 1)
  upto-some some = record {
    counted = omega (arith, was.counted, sum_by_more (λ (h : HeldTable). length h.alive) hs at d within);
    next_is = ap (λ n. n + 1) was.next_is ∙ sym (count-more hs at d within some);
  }

  pub upto-none : length (get_or hs at d).alive ≤ 0 → IsUpto hs (at + 1) first next
  upto-none none = record {
    counted = omega (arith, was.counted, none, sum_by_more (λ (h : HeldTable). length h.alive) hs at d within);
    next_is = was.next_is ∙ ap length (sym (none-more hs at d within none));
  }

  module _ (name : List ℕ) (t : ColumnType) (lo hi : End) where
    abbrev found_in : HeldTable → List ℕ
    found_in h = places_of first (has_value name t lo hi) (map (row_in h.table) h.alive)

    -- the places of its rows stand behind those before
    pub found-more : places_between name t lo hi (live (take (at + 1) hs))
        ≡ places_between name t lo hi (live (take at hs)) ++ found_in (get_or hs at d)
    found-more =
        let h = get_or hs at d in
        let before = live (take at hs) in
        let place : 0 + length before ≡ first = omega (arith, live-length (take at hs), was.counted) in
        ap (λ hs. places_between name t lo hi (live hs)) (take_more hs at d within)
        ∙ ap (places_between name t lo hi) (live-more (take at hs) h)
        ∙ places-append 0 (has_value name t lo hi) before (map (row_in h.table) h.alive)
        ∙ ap (λ n. places_between name t lo hi before ++ places_of n (has_value name t lo hi) (map (row_in h.table) h.alive)) place

    pub found-next : (old mid new : List ℕ) → mid ≡ old ++ places_between name t lo hi (live (take at hs))
        → new ≡ mid ++ found_in (get_or hs at d) → new ≡ old ++ places_between name t lo hi (live (take (at + 1) hs))
    found-next old mid new before here =
        here ∙ ap (λ l. l ++ found_in (get_or hs at d)) before
        ∙ append_assoc old (places_between name t lo hi (live (take at hs))) (found_in (get_or hs at d))
        ∙ ap (λ l. old ++ l) (sym found-more)

    -- a segment without a row alive has none
    pub found-same : (old new : List ℕ) → length (get_or hs at d).alive ≤ 0
        → new ≡ old ++ places_between name t lo hi (live (take at hs)) → new ≡ old ++ places_between name t lo hi (live (take (at + 1) hs))
    found-same old new none before =
        let h = get_or hs at d in
        found-next old new new before (sym (append-nil new) ∙ ap (λ l. new ++ l) (sym (by h.alive none)))
      where
        by : (alive : List ℕ) → length alive ≤ 0
            → places_of first (has_value name t lo hi) (map (row_in (get_or hs at d).table) alive) ≡ []
        by [] none = refl
        by (r ∷ alive) none = absurd (omega arith)

  -- what stands beside the segment there, at the place of its own
  pub beside-at : {B : Type 0} (R : Table → B → Type 0) (bs : List B) (e : B) → AllZip R (kept_tables hs) bs
      → 0 < length (get_or hs at d).alive → R (get_or hs at d).table (get_or bs next e)
  beside-at R bs e all some =
      subst (λ n. R (get_or hs at d).table (get_or bs n e)) (sym was.next_is) (kept-at R hs at d bs e within some all)

  pub beside-within : {B : Type 0} (R : Table → B → Type 0) (bs : List B) → AllZip R (kept_tables hs) bs
      → 0 < length (get_or hs at d).alive → next < length bs
  beside-within R bs all some = omega (arith, was.next_is, place-within R hs at d bs within some all)

-- all segments
pub found-whole : (hs : List HeldTable) (at : ℕ) (name : List ℕ) (t : ColumnType) (lo hi : End) (old new : List ℕ) → length hs ≤ at
    → new ≡ old ++ places_between name t lo hi (live (take at hs)) → new ≡ old ++ places_between name t lo hi (live hs)
found-whole hs at name t lo hi old new whole is =
    is ∙ ap (λ hs. old ++ places_between name t lo hi (live hs)) (take_all at hs whole)
