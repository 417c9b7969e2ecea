-- Lists without their last item.
use Rattle.std.proofs.Common.{◌≡◌, ◌<◌, ℕ, ◌-◌, List, [], ◌∷◌, ◌++◌, length, take, Some, None, refl, sym, ◌∙◌, ap, arith, length-append}
use Rattle.std.specs.Prelude.{slice_set}
use Rattle.std.specs.List.{last_or, zip}
use Rattle.col_writer_rows.specs.Documents.{IsCut}
use Rattle.col_writer_columns.specs.Posted.{IsSet, AreBeside}
use Rattle.col_writer_rows.proofs.CutLemmas.{before_last, front_same}
use Rattle.col_writer_rows.proofs.DocumentLemmas.{last_or-append}
use Rattle.col_writer_columns.proofs.PostedLemmas.{zip-push}

pub last_same : {A : Type 0} (xs ys : List A) (x y : A) → xs ++ x ∷ [] ≡ ys ++ y ∷ [] → x ≡ y
last_same xs ys x y e =
    let some : Some x ≡ Some y = sym (last_or-append None xs (x ∷ [])) ∙ ap (last_or None) e ∙ last_or-append None ys (y ∷ []) in cc

-- a list that isn't empty has a last item
pub split_last : {A : Type 0} (xs : List A) → 0 < length xs → (ys : List A) × (y : A) × (xs ≡ ys ++ y ∷ [])
split_last [] h = absurd (omega arith)
split_last (x ∷ []) h = ([], x, refl)
split_last (x ∷ y ∷ zs) h = let r = split_last (y ∷ zs) (omega arith) in (x ∷ r.0, r.1, ap (λ t. x ∷ t) r.2)

-- ---- values beside their documents

-- both lists have a last item
pub both_last : {A B : Type 0} (ks : List A) (vs : List B) → length ks ≡ length vs → 0 < length (zip ks vs)
    → (ls : List A) × (l : A) × (ws : List B) × (w : B) × (ks ≡ ls ++ l ∷ []) × (vs ≡ ws ++ w ∷ [])
    × (zip ks vs ≡ zip ls ws ++ (l, w) ∷ []) × (length ls ≡ length ws)
both_last [] vs e h = absurd (omega arith)
both_last (k ∷ ks) [] e h = absurd (omega arith)
both_last (k ∷ ks) (v ∷ vs) e h =
    let a = split_last (k ∷ ks) (omega arith) in
    let b = split_last (v ∷ vs) (omega arith) in
    let same : length a.0 ≡ length b.0 = omega
    (arith, e, ap length a.2, ap length b.2, length-append a.0 (a.1 ∷ []), length-append b.0 (b.1 ∷ [])) in
    (a.0, a.1, b.0, b.1, a.2, b.2, (λ i. zip (a.2 i) (b.2 i)) ∙ zip-push a.0 b.0 a.1 b.1 same, same)

pub values-cut : {A : Type 0} (vs left : List A) (ws : List A) (w : A) → vs ≡ ws ++ w ∷ [] → left ≡ take (length vs - 1) vs → left ≡ ws
values-cut vs left ws w e f = f ∙ ap (λ r. take (length r - 1) r) e ∙ before_last ws w

-- a value in the place of the last one
pub set_at_end : {A : Type 0} (ws : List A) (w v : A) → slice_set (ws ++ w ∷ []) (length ws) v ≡ ws ++ v ∷ []
set_at_end [] w v = refl
set_at_end (y ∷ ws) w v = ap (λ r. y ∷ r) (set_at_end ws w v)

-- values cut at the length before their last are beside their documents without the last
pub posted-cut : {X : Type 0} (docs docs' : List ℕ) (vs vs' : List X) (now : List (ℕ × X)) (m : ℕ)
    → zip docs vs ≡ now → AreBeside docs vs → 0 < length now → IsCut docs docs' → m ≡ length vs
    → vs' ≡ take (m - 1) vs → AreBeside docs' vs' × IsCut now (zip docs' vs')
unfolding IsCut
posted-cut docs docs' vs vs' now m is e some cut many rest =
    let b = both_last docs vs e.many (omega (arith, some, ap length is)) in
    let ds : docs' ≡ b.0 = cut b.0 b.1 b.4 in
    let ws : vs' ≡ b.2 = values-cut vs vs' b.2 b.3 b.5 (rest ∙ ap (λ k. take (k - 1) vs) many) in (
      record {
        many = ap length ds ∙ b.7 ∙ ap length (sym ws);
        few = omega (arith, e.few, ap length ws, ap length b.5, length-append b.2 (b.3 ∷ []));
      },
      λ xs x f. (λ i. zip (ds i) (ws i)) ∙ front_same (zip b.0 b.2) xs (b.1, b.3) x (sym b.6 ∙ is ∙ f),
    )

-- a value set in the last place stands beside the last document
pub posted-set : {X : Type 0} (docs : List ℕ) (vs : List X) (now : List (ℕ × X)) (m : ℕ) (v : X) → zip docs vs ≡ now
    → length docs ≡ length vs → 0 < length now → m ≡ length vs → IsSet now v (zip docs (slice_set vs (m - 1) v))
unfolding IsSet
posted-set docs vs now m v is e some many ps d x f =
    let b = both_last docs vs e (omega (arith, some, ap length is)) in
    let place : m - 1 ≡ length b.2 = omega (arith, many, ap length b.5, length-append b.2 (b.3 ∷ [])) in
    let set_now : slice_set vs (m - 1) v ≡ b.2 ++ v ∷ [] = (λ i. slice_set (b.5 i) (place i) v) ∙ set_at_end b.2 b.3 v in
    let whole = sym b.6 ∙ is ∙ f in
    (λ i. zip (b.4 i) (set_now i)) ∙ zip-push b.0 b.2 b.1 v b.7
    ∙ (λ i. front_same (zip b.0 b.2) ps (b.1, b.3) (d, x) whole i ++ ((last_same (zip b.0 b.2) ps (b.1, b.3) (d, x) whole i).0, v) ∷ [])

-- what was pushed can be let go, or set
pub cut_is : {X : Type 0} (old new xs : List X) (x : X) → IsCut old new → old ≡ xs ++ x ∷ [] → new ≡ xs
unfolding IsCut
cut_is old new xs x h e = h xs x e

-- a value in the place of the last leaves what stands before it
pub set_is : {X : Type 0} (old new ps : List (ℕ × X)) (d : ℕ) (x v : X) → IsSet old v new → old ≡ ps ++ (d, x) ∷ []
    → new ≡ ps ++ (d, v) ∷ []
unfolding IsSet
set_is old new ps d x v h e = h ps d x e

-- a list with an item at its end isn't empty
pub some_pushed : {X : Type 0} (old xs : List X) (x : X) → old ≡ xs ++ x ∷ [] → 0 < length old
some_pushed old xs x e = omega (arith, ap length e, length-append xs (x ∷ []))
