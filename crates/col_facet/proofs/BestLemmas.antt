-- The first so many by rank, kept while facets come one by one.
use Rattle.std.proofs.Common.{◌≡◌, ℕ, zero, suc, ◌+◌, ◌-◌, ◌<◌, ◌≤◌, Bool, true, false, cond, not, if◌then◌else◌, List, [], ◌∷◌, ◌++◌, take, drop, length, get_or, refl, sym, ◌∙◌, ap, subst, arith}
use Rattle.std.specs.List.{AllByRecursion, prefix_len, insert}
use Rattle.std.specs.declared.cmp.Ordering.{Ordering}
use Rattle.std.specs.declared.cmp.Ordering.TheVariants.{Less, Equal, Greater}
use Rattle.std.specs.declared.cmp.Reverse.{Reverse}
use Rattle.std.specs.Ordering.{is_lt, is_gt, ordering_reverse}
use Rattle.std.proofs.Math.ListN.{drop_of_length-le}
use Rattle.std.proofs.Math.Seq.{drop-cons, take-nil}
use Rattle.std.proofs.lemmas.Bool.{true≢false}
use Rattle.std.proofs.lemmas.List.{length-map, take-append-le, take-map}
use denote.Ref.{Bor}
use Rattle.col_model.specs.Sorted.{inserted, sorted_items}
use Rattle.col_model.proofs.SortLaws.{all-inserted}
use Rattle.col_facet.specs.Facets.{rank_cmp, top_of}
use Rattle.col_facet.specs.Ranked.{ranked_count, ranked_counts, ranked_cmp, in_rank, AreRanked}
use Rattle.col_facet.specs.declared.facet_cell.FacetCell.{FacetCell}
use Rattle.col_facet.specs.declared.facet_cell.FacetCount.{FacetCount}
use Rattle.col_facet.proofs.RunLemmas.{below-both}
use Rattle.col_facet.proofs.TopLemmas.{ranks_total}

-- what ranks before another isn't behind it
not-behind : (f g : FacetCount) → in_rank f g ≡ not (is_lt (rank_cmp g f))
not-behind f g = ap (λ r. not (is_gt r)) (ranks_total.antisymm f g) ∙ go (rank_cmp g f)
  where
    go : (r : Ordering) → not (is_gt (ordering_reverse r)) ≡ not (is_lt r)
    go Less = refl
    go Equal = refl
    go Greater = refl

not-both : (f g : FacetCount) → is_lt (rank_cmp g f) ≡ true → is_lt (rank_cmp f g) ≡ false
not-both f g e = go (rank_cmp g f) (ranks_total.antisymm f g) e
  where
    go : (r : Ordering) → rank_cmp f g ≡ ordering_reverse r → is_lt r ≡ true → is_lt (rank_cmp f g) ≡ false
    go Less h e = ap is_lt h
    go Equal h e = absurd (true≢false (sym e))
    go Greater h e = absurd (true≢false (sym e))

all-behind : (f g : FacetCount) (hs : List FacetCount) → AllByRecursion (λ h. is_lt (rank_cmp h g) ≡ false) hs
    → is_lt (rank_cmp g f) ≡ false → AllByRecursion (λ h. is_lt (rank_cmp h f) ≡ false) hs
all-behind f g [] all e = tt
all-behind f g (h ∷ hs) all e = (below-both rank_cmp ranks_total f g h e all.0, all-behind f g hs all.1 e)

ranked-inserted : (f : FacetCount) (gs : List FacetCount) → AreRanked gs → AreRanked (inserted in_rank f gs)
ranked-inserted f [] up = (tt, tt)
ranked-inserted f (g ∷ gs) up = go (is_lt (rank_cmp g f)) refl (not-behind f g) (ranked-inserted f gs up.1)
  where
    go : (b : Bool) → is_lt (rank_cmp g f) ≡ b → in_rank f g ≡ not (is_lt (rank_cmp g f)) → AreRanked (inserted in_rank f gs)
        → AreRanked (if in_rank f g then f ∷ g ∷ gs else g ∷ inserted in_rank f gs)
    go true e h rest = subst (λ t. AreRanked (if t then f ∷ g ∷ gs else g ∷ inserted in_rank f gs)) (sym (h ∙ ap not e))
        (all-inserted in_rank (λ x. is_lt (rank_cmp x g) ≡ false) f gs (not-both f g e) up.0, rest)
    go false e h rest = subst (λ t. AreRanked (if t then f ∷ g ∷ gs else g ∷ inserted in_rank f gs)) (sym (h ∙ ap not e))
        ((e, all-behind f g gs up.0 e), up)

-- facets in rank are in rank
pub ranked-sorted : (fs : List FacetCount) → AreRanked (sorted_items in_rank fs)
unfolding sorted_items
ranked-sorted [] = tt
ranked-sorted (f ∷ fs) = ranked-inserted f (sorted_items in_rank fs) (ranked-sorted fs)

all-few : (P : FacetCount → Type 0) (k : ℕ) (fs : List FacetCount) → AllByRecursion P fs → AllByRecursion P (take k fs)
all-few P zero fs all = tt
all-few P (suc k) [] all = tt
all-few P (suc k) (f ∷ fs) all = (all.0, all-few P k fs all.1)

-- so are the first so many
pub ranked-few : (k : ℕ) (fs : List FacetCount) → AreRanked fs → AreRanked (take k fs)
ranked-few zero fs up = tt
ranked-few (suc k) [] up = tt
ranked-few (suc k) (f ∷ fs) up = (all-few (λ g. is_lt (rank_cmp g f) ≡ false) k fs up.0, ranked-few k fs up.1)

take-few : (k : ℕ) (f : FacetCount) (fs : List FacetCount) → take k (f ∷ take k fs) ≡ take k (f ∷ fs)
take-few zero f fs = refl
take-few (suc k) f fs = ap (λ gs. f ∷ gs) (go k fs)
  where
    go : (k : ℕ) (fs : List FacetCount) → take k (take (suc k) fs) ≡ take k fs
    go zero fs = refl
    go (suc k) [] = refl
    go (suc k) (f ∷ fs) = ap (λ gs. f ∷ gs) (go k fs)

-- the first so many, with one more, are those of the first so many
pub few-inserted : (k : ℕ) (f : FacetCount) (gs : List FacetCount)
    → take k (inserted in_rank f (take k gs)) ≡ take k (inserted in_rank f gs)
few-inserted zero f gs = refl
few-inserted (suc k) f [] = refl
few-inserted (suc k) f (g ∷ gs) = go (in_rank f g) (few-inserted k f gs)
  where
    go : (b : Bool) → take k (inserted in_rank f (take k gs)) ≡ take k (inserted in_rank f gs)
        → take (suc k) (if b then f ∷ g ∷ take k gs else g ∷ inserted in_rank f (take k gs))
        ≡ take (suc k) (if b then f ∷ g ∷ gs else g ∷ inserted in_rank f gs)
    go true e = ap (λ hs. f ∷ hs) (take-few k g gs)
    go false e = ap (λ hs. g ∷ hs) e

-- what is put behind those that rank before it is put in its place
pub place-inserted : (vs : List (Reverse ℕ × Bor FacetCell)) (v : Reverse ℕ × Bor FacetCell) (n : ℕ)
    → n ≡ prefix_len (λ w. is_lt (ranked_cmp w v)) vs
    → ranked_counts (insert vs n v) ≡ inserted in_rank (ranked_count v) (ranked_counts vs)
place-inserted [] v n e = ap (λ m. ranked_counts (insert [] m v)) e
place-inserted (w ∷ vs) v n e =
    go (is_lt (ranked_cmp w v)) refl (not-behind (ranked_count v) (ranked_count w))
    (place-inserted vs v (prefix_len (λ u. is_lt (ranked_cmp u v)) vs) refl)
  where
    rest : ℕ
    rest = prefix_len (λ u. is_lt (ranked_cmp u v)) vs

    go : (b : Bool) → is_lt (ranked_cmp w v) ≡ b → in_rank (ranked_count v) (ranked_count w) ≡ not (is_lt (ranked_cmp w v))
        → ranked_counts (insert vs rest v) ≡ inserted in_rank (ranked_count v) (ranked_counts vs)
        → ranked_counts (insert (w ∷ vs) n v)
        ≡ (if in_rank (ranked_count v) (ranked_count w) then ranked_count v ∷ ranked_count w ∷ ranked_counts vs
        else ranked_count w ∷ inserted in_rank (ranked_count v) (ranked_counts vs))
    go true f h more =
        let far : 1 + rest ≡ suc rest = omega arith in
        ap (λ m. ranked_counts (insert (w ∷ vs) m v)) (e ∙ ap (λ b. cond b (1 + rest) 0) f ∙ far)
        ∙ ap (λ fs. ranked_count w ∷ fs) more
        ∙ ap (λ b. if b then ranked_count v ∷ ranked_count w ∷ ranked_counts vs
        else ranked_count w ∷ inserted in_rank (ranked_count v) (ranked_counts vs)) (sym (h ∙ ap not f))
    go false f h more =
        ap (λ m. ranked_counts (insert (w ∷ vs) m v)) (e ∙ ap (λ b. cond b (1 + rest) 0) f)
        ∙ ap (λ b. if b then ranked_count v ∷ ranked_count w ∷ ranked_counts vs
        else ranked_count w ∷ inserted in_rank (ranked_count v) (ranked_counts vs)) (sym (h ∙ ap not f))

item-holds : (P : FacetCount → Type 0) (gs : List FacetCount) (i : ℕ) (g : FacetCount) → AllByRecursion P gs → i < length gs
    → g ≡ get_or gs i g → P g
item-holds P [] i g all h e = absurd (omega (arith, h))
item-holds P (x ∷ gs) zero g all h e = subst P (sym e) all.0
item-holds P (x ∷ gs) (suc i) g all h e = item-holds P gs i g all.1 (omega (arith, h)) e

behind-first : (f g last : FacetCount) → is_lt (rank_cmp last g) ≡ false → is_lt (rank_cmp last f) ≡ true → in_rank f g ≡ false
behind-first f g last h e = not-behind f g ∙ ap not (go (is_lt (rank_cmp g f)) refl)
  where
    go : (b : Bool) → is_lt (rank_cmp g f) ≡ b → is_lt (rank_cmp g f) ≡ true
    go true k = k
    go false k = absurd (true≢false (sym e ∙ below-both rank_cmp ranks_total f g last k h))

-- what the last ranks before is put behind all
pub behind-inserted : (f : FacetCount) (gs : List FacetCount) (last : FacetCount) → AreRanked gs → 0 < length gs
    → last ≡ get_or gs (length gs - 1) last → is_lt (rank_cmp last f) ≡ true → inserted in_rank f gs ≡ gs ++ f ∷ []
behind-inserted f [] last up some is e = absurd (omega (arith, some))
behind-inserted f (g ∷ []) last up some is e =
    ap (λ b. if b then f ∷ g ∷ [] else g ∷ f ∷ [])
    (not-behind f g ∙ ap (λ h. not (is_lt (rank_cmp h f))) (sym is) ∙ ap not e)
behind-inserted f (g ∷ h ∷ gs) last up some is e =
    let place : length (g ∷ h ∷ gs) - 1 ≡ suc (length (h ∷ gs) - 1) = omega arith in
    let later : last ≡ get_or (h ∷ gs) (length (h ∷ gs) - 1) last = is ∙ ap (λ i. get_or (g ∷ h ∷ gs) i last) place in
    let all = item-holds (λ x. is_lt (rank_cmp x g) ≡ false) (h ∷ gs) (length (h ∷ gs) - 1) last up.0 (omega arith) later in
    ap (λ b. if b then f ∷ g ∷ h ∷ gs else g ∷ inserted in_rank f (h ∷ gs)) (behind-first f g last all e)
    ∙ ap (λ hs. g ∷ hs) (behind-inserted f (h ∷ gs) last up.1 (omega arith) later e)

-- ---- a walk over facets, from the last to the first

-- those that are kept where one more comes behind all
pub kept-behind : (best new : List (Reverse ℕ × Bor FacetCell)) (f : FacetCount) (k : ℕ) → new ≡ take k best → k ≤ length best
    → inserted in_rank f (ranked_counts best) ≡ ranked_counts best ++ f ∷ []
    → ranked_counts new ≡ take k (inserted in_rank f (ranked_counts best))
kept-behind best new f k is few behind =
    ap ranked_counts is ∙ sym (take-map ranked_count k best)
    ∙ sym (take-append-le k (ranked_counts best) (f ∷ []) (omega (arith, few, length-map best ranked_count)))
    ∙ ap (take k) (sym behind)

-- and where it comes into its place
pub kept-placed : (best all new : List (Reverse ℕ × Bor FacetCell)) (v : Reverse ℕ × Bor FacetCell) (n k : ℕ)
    → n ≡ prefix_len (λ w. is_lt (ranked_cmp w v)) best → all ≡ insert best n v → new ≡ take k all
    → ranked_counts new ≡ take k (inserted in_rank (ranked_count v) (ranked_counts best))
kept-placed best all new v n k place more is =
    ap ranked_counts is ∙ sym (take-map ranked_count k all)
    ∙ ap (λ vs. take k (ranked_counts vs)) more ∙ ap (take k) (place-inserted best v n place)

-- those of none
pub best-start : (best : List (Reverse ℕ × Bor FacetCell)) (facets : List FacetCount) (k : ℕ) → best ≡ []
    → ranked_counts best ≡ take k (sorted_items in_rank (drop (length facets) facets))
unfolding sorted_items
best-start best facets k none =
    ap ranked_counts none ∙ sym (take-nil k)
    ∙ ap (λ fs. take k (sorted_items in_rank fs)) (sym (drop_of_length-le facets (omega arith)))

-- those with one more in front
pub best-step : (facets : List FacetCount) (at k : ℕ) (f : FacetCount) (old new : List FacetCount) → 0 < at → at ≤ length facets
    → f ≡ get_or facets (at - 1) f → old ≡ take k (sorted_items in_rank (drop at facets))
    → new ≡ take k (inserted in_rank f old) → new ≡ take k (sorted_items in_rank (drop (at - 1) facets))
unfolding sorted_items
best-step facets zero k f old new some within is so_far more = absurd (omega (arith, some))
best-step facets (suc at) k f old new some within is so_far more =
    let place : suc at - 1 ≡ at = omega arith in
    let here : f ≡ get_or facets at f = is ∙ ap (λ i. get_or facets i f) place in
    let rest = sorted_items in_rank (drop (suc at) facets) in
    more ∙ ap (λ fs. take k (inserted in_rank f fs)) so_far ∙ few-inserted k f rest
    ∙ ap (λ fs. take k (sorted_items in_rank fs))
    (ap (λ g. g ∷ drop (suc at) facets) here ∙ sym (drop-cons facets at f (omega (arith, within)))
    ∙ ap (λ i. drop i facets) (sym place))

-- those of all
pub best-end : (best facets : List FacetCount) (at k : ℕ) → best ≡ take k (sorted_items in_rank (drop at facets)) → at ≤ 0
    → best ≡ top_of k facets
unfolding top_of
best-end best facets at k so_far h =
    let start : at ≡ 0 = omega (arith, h) in so_far ∙ ap (λ i. take k (sorted_items in_rank (drop i facets))) start

-- what the last ranks before is put behind all, as they are ranked
pub behind-ranked : (best : List (Reverse ℕ × Bor FacetCell)) (v last : Reverse ℕ × Bor FacetCell) → AreRanked (ranked_counts best)
    → 0 < length best → last ≡ get_or best (length best - 1) last → is_lt (ranked_cmp last v) ≡ true
    → inserted in_rank (ranked_count v) (ranked_counts best) ≡ ranked_counts best ++ ranked_count v ∷ []
behind-ranked best v last up some is e =
    behind-inserted (ranked_count v) (ranked_counts best) (ranked_count last) up (omega (arith, some, length-map best ranked_count))
    (ap ranked_count is ∙ mapped best (length best - 1)
    ∙ ap (λ n. get_or (ranked_counts best) (n - 1) (ranked_count last)) (sym (length-map best ranked_count))) e
  where
    mapped : (vs : List (Reverse ℕ × Bor FacetCell)) (i : ℕ)
        → ranked_count (get_or vs i last) ≡ get_or (ranked_counts vs) i (ranked_count last)
    mapped [] i = refl
    mapped (w ∷ vs) zero = refl
    mapped (w ∷ vs) (suc i) = mapped vs i
