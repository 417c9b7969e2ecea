-- An item of one of several lists is set.
use Rattle.std.proofs.Common.{◌≡◌, ◌≢◌, ◌⊎◌, ℕ, zero, suc, ◌<◌, eqb, Bool, true, false, List, [], ◌∷◌, map, length, set, get_or, is_some, Option, Some, None, slice_get, refl, sym, ap, ◌∙◌, subst, inl, inr, arith}
use Rattle.std.specs.Prelude.{option_map, option_and_then}
use Rattle.std.specs.List.{AllByRecursion}
use Rattle.std.proofs.lemmas.Bool.{true≢false, eqb-true, eq-eqb}
use Rattle.std.proofs.lemmas.Option.{slice_get-map, slice_get-get_or}
use Rattle.std.proofs.lemmas.List.{map-set}
use Rattle.std.specs.Vec.{with_item}
use Rattle.std.specs.declared.vec.Vec.{Vec}
use Rattle.std.specs.declared.alloc.Global.{Global}
use Rattle.std.proofs.Math.ListN.{length-set}
use Rattle.col_merge_texts.specs.Items.{item_at}
use Rattle.col_merge_texts.proofs.AmongLemmas.{get-set-same, get-set-other}
use Rattle.col_merge_texts.specs.Noting.{ids_of, Sets}

lengths-set : {X : Type 0} (m : List (List X)) (i j : ℕ) (x : X) (row : List X) → slice_get m i ≡ Some row
    → map length (set m i (set row j x)) ≡ map length m
lengths-set [] i j x row e = refl
lengths-set (r ∷ m) zero j x row e =
    let same : r ≡ row = cc in
    ap (λ k. k ∷ map length m) (length-set row j x ∙ ap length (sym same))
lengths-set (r ∷ m) (suc i) j x row e = ap (λ ks. length r ∷ ks) (lengths-set m i j x row e)

row-item : {X : Type 0} (m : List (List X)) (i j : ℕ) (row : List X) → slice_get m i ≡ Some row → item_at m (i, j) ≡ slice_get row j
row-item m i j row e = ap (option_and_then (λ xs. slice_get xs j)) e

sets-one : {X : Type 0} (m : List (List X)) (i j : ℕ) (x v : X) (row : List X) → slice_get m i ≡ Some row
    → slice_get row j ≡ Some v → Sets (i, j) x m (set m i (set row j x))
sets-one {X} m i j x v row e f =
    let here = get-set-same m i (set row j x) row e in
    record {
      lengths = lengths-set m i j x row e;
      told = row-item (set m i (set row j x)) i j (set row j x) here ∙ get-set-same row j x v f;
      others = λ p. other p (eqb p.0 i) refl (eqb p.1 j) refl;
    }
  where
    other : (p : ℕ × ℕ) (b : Bool) → eqb p.0 i ≡ b → (c : Bool) → eqb p.1 j ≡ c
        → (p ≡ (i, j)) ⊎ (item_at (set m i (set row j x)) p ≡ item_at m p)
    other p true s true t =
        let first : p.0 ≡ i = eqb-true p.0 i s in
        let second : p.1 ≡ j = eqb-true p.1 j t in
        inl (λ k. (first k, second k))
    other p true s false t =
        let first : p.0 ≡ i = eqb-true p.0 i s in
        let new : slice_get (set m i (set row j x)) p.0 ≡ Some (set row j x) =
        ap (slice_get (set m i (set row j x))) first ∙ get-set-same m i (set row j x) row e in
        let old : slice_get m p.0 ≡ Some row = ap (slice_get m) first ∙ e in
        let apart : p.1 ≢ j = λ q. true≢false (sym (eq-eqb p.1 j q) ∙ t) in
        inr (row-item (set m i (set row j x)) p.0 p.1 (set row j x) new ∙ get-set-other row j p.1 x apart
        ∙ sym (row-item m p.0 p.1 row old))
    other p false s c t =
        let apart : p.0 ≢ i = λ q. true≢false (sym (eq-eqb p.0 i q) ∙ s) in
        inr (ap (option_and_then (λ xs. slice_get xs p.1)) (get-set-other m i p.0 (set row j x) apart))

-- the same where the lists are held
pub sets-held : (vs : List (Vec (Option ℕ) Global)) (i j : ℕ) (x : Option ℕ) (v : Vec (Option ℕ) Global)
    → is_some (item_at (ids_of vs) (i, j)) ≡ true → i < length vs
    → Sets (i, j) x (ids_of vs) (ids_of (set vs i (with_item (get_or vs i v) j x)))
sets-held vs i j x v some h =
    let row = (get_or vs i v).items in
    let at : slice_get (ids_of vs) i ≡ Some row = slice_get-map (λ (w : Vec (Option ℕ) Global). w.items) vs i
    ∙ ap (option_map (λ (w : Vec (Option ℕ) Global). w.items)) (slice_get-get_or vs i v h) in
    let moved : ids_of (set vs i (with_item (get_or vs i v) j x)) ≡ set (ids_of vs) i (set row j x) =
    map-set (λ (w : Vec (Option ℕ) Global). w.items) vs i (with_item (get_or vs i v) j x) in
    go row at moved (slice_get row j) refl
  where
    go : (row : List (Option ℕ)) → slice_get (ids_of vs) i ≡ Some row
        → ids_of (set vs i (with_item (get_or vs i v) j x)) ≡ set (ids_of vs) i (set row j x)
        → (o : Option (Option ℕ)) → slice_get row j ≡ o
        → Sets (i, j) x (ids_of vs) (ids_of (set vs i (with_item (get_or vs i v) j x)))
    go row at moved None e = absurd (true≢false (sym some ∙ ap is_some (row-item (ids_of vs) i j row at ∙ e)))
    go row at moved (Some w) e = subst (Sets (i, j) x (ids_of vs)) (sym moved) (sets-one (ids_of vs) i j x w row at e)

-- a list that has an item is one of the lists
pub row-below : (vs : List (Vec (Option ℕ) Global)) (i j : ℕ) → is_some (item_at (ids_of vs) (i, j)) ≡ true → i < length vs
row-below [] i j e = absurd (true≢false (sym e))
row-below (v ∷ vs) zero j e = omega arith
row-below (v ∷ vs) (suc i) j e = let more = row-below vs i j e in omega arith

-- what holds of all lists holds of one
pub all-at : (P : List (Option ℕ) → Type 0) (vs : List (Vec (Option ℕ) Global)) (i : ℕ) (v : Vec (Option ℕ) Global)
    → i < length vs → v ≡ get_or vs i v → AllByRecursion P (ids_of vs) → P v.items
all-at P [] i v h e all = absurd (omega (arith, h))
all-at P (w ∷ vs) zero v h e all = subst (λ (u : Vec (Option ℕ) Global). P u.items) (sym e) all.0
all-at P (w ∷ vs) (suc i) v h e all = all-at P vs i v (omega (arith, h)) e all.1
