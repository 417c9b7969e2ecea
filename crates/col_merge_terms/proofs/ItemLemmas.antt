-- Items of lists of lists, and numbers that are given to some of them.
use Rattle.std.proofs.Common.{◌≡◌, ◌≢◌, ◌⊎◌, ℕ, zero, suc, ◌<◌, eqb, Bool, true, false, List, [], ◌∷◌, map, filter, length, set, get_or, is_some, Option, Some, None, slice_get, refl, sym, ap, ◌∙◌, subst, inl, inr, arith, IsPermutation}
use Rattle.std.specs.List.{AllByRecursion}
use Rattle.std.specs.Prelude.{option_map, option_and_then}
use Rattle.std.proofs.lemmas.Bool.{true≢false, eqb-true, eq-eqb}
use Rattle.std.proofs.lemmas.List.Sorted.{IsPermutation-sym}
use Rattle.std.proofs.lemmas.Option.{slice_get-map, slice_get-get_or}
use Rattle.std.proofs.lemmas.List.{map-set}
use Rattle.std.specs.Vec.{with_item}
use Rattle.std.specs.declared.vec.Vec.{Vec}
use Rattle.std.specs.declared.alloc.Global.{Global}
use Rattle.std.proofs.Math.ListN.{length-set}
use Rattle.col_merge_texts.specs.Items.{lists_of, item_at, IsAmong}
use Rattle.col_merge_texts.proofs.AmongLemmas.{all-in, some-same, get-set-same, get-set-other}
use Rattle.col_merge_terms.specs.Numbering.{Numbers, AreGiven}
use Rattle.col_model.proofs.PermutationLaws.{along, all-moved}

-- ---- one of the items

-- an item that passes a test is one of those that pass
pub in-filter : {X : Type 0} (p : X → Bool) (x : X) (xs : List X) → IsAmong x xs → p x ≡ true → IsAmong x (filter p xs)
in-filter p x [] i h = absurd i
in-filter {X} p x (y ∷ ys) i h = elim i [ inl e ↦ here e | inr rest ↦ later (in-filter p x ys rest h) ]
  where
    here : x ≡ y → IsAmong x (filter p (y ∷ ys))
    here e = let passes : p y ≡ true = ap p (sym e) ∙ h in rw passes (inl e)

    later : IsAmong x (filter p ys) → IsAmong x (filter p (y ∷ ys))
    later rest = go (p y) refl
      where
        go : (b : Bool) → p y ≡ b → IsAmong x (filter p (y ∷ ys))
        go true e = rw e (inr rest)
        go false e = rw e rest

-- an item of a list is one of its permutation
pub in-moved : {X : Type 0} (x : X) (xs ys : List X) → IsPermutation xs ys → IsAmong x xs → IsAmong x ys
in-moved {X} x = along (λ xs ys. IsAmong x xs → IsAmong x ys)
    (λ xs i. i)
    (λ y xs ys f i. elim i [ inl e ↦ inl e | inr rest ↦ inr (f rest) ])
    (λ y z xs i. elim i [ inl e ↦ inr (inl e) | inr rest ↦ elim rest [ inl e ↦ inl e | inr more ↦ inr (inr more) ] ])
    (λ xs ys zs f g i. g (f i))

-- ---- where items are

-- the item at a place of mapped lists is the image of the item there
pub item-map : {X Y : Type 0} (f : X → Y) (m : List (List X)) (i j : ℕ) → item_at (map (map f) m) (i, j) ≡ option_map f (item_at m (i, j))
item-map f [] i j = refl
item-map f (x ∷ m) zero j = slice_get-map f x j
item-map f (x ∷ m) (suc i) j = item-map f m i j

-- lists of the same lengths with the same items are one
same-list : {X : Type 0} (xs ys : List X) → length xs ≡ length ys
    → ((j : ℕ) (v : X) → slice_get ys j ≡ Some v → slice_get xs j ≡ Some v) → xs ≡ ys
same-list [] [] e f = refl
same-list [] (y ∷ ys) e f = absurd (omega (arith, e))
same-list (x ∷ xs) [] e f = absurd (omega (arith, e))
same-list (x ∷ xs) (y ∷ ys) e f =
    let first : x ≡ y = (let told = f 0 y refl in cc) in
    let rest : xs ≡ ys = same-list xs ys (omega (arith, e)) (λ j v h. f (suc j) v h) in
    cc

-- lists of lists with equal lengths, of which one has each item of the other, are the same
pub same-lists : {X : Type 0} (m n : List (List X)) → map length m ≡ map length n
    → ((i j : ℕ) (v : X) → item_at n (i, j) ≡ Some v → item_at m (i, j) ≡ Some v) → m ≡ n
same-lists [] [] e f = refl
same-lists [] (y ∷ n) e f = cc
same-lists (x ∷ m) [] e f = cc
same-lists (x ∷ m) (y ∷ n) e f =
    let long : length x ≡ length y = cc in
    let first : x ≡ y = same-list x y long (λ j v h. f 0 j v h) in
    let tail : map length m ≡ map length n = cc in
    let rest : m ≡ n = same-lists m n tail (λ i j v h. f (suc i) j v h) in
    cc

-- ---- one item is set

lengths-set : (m : List (List ℕ)) (i j n : ℕ) (row : List ℕ) → slice_get m i ≡ Some row → map length (set m i (set row j n)) ≡ map length m
lengths-set [] i j n row e = refl
lengths-set (x ∷ m) zero j n row e =
    let same : x ≡ row = cc in
    ap (λ k. k ∷ map length m) (length-set row j n ∙ ap length (sym same))
lengths-set (x ∷ m) (suc i) j n row e = ap (λ ks. length x ∷ ks) (lengths-set m i j n row e)

row-item : (m : List (List ℕ)) (i j : ℕ) (row : List ℕ) → slice_get m i ≡ Some row → item_at m (i, j) ≡ slice_get row j
row-item m i j row e = ap (option_and_then (λ xs. slice_get xs j)) e

pub numbers-one : (m : List (List ℕ)) (i j n v : ℕ) (row : List ℕ) → slice_get m i ≡ Some row
    → slice_get row j ≡ Some v → Numbers ((i, j) ∷ []) n m (set m i (set row j n))
numbers-one m i j n v row e f =
    let here = get-set-same m i (set row j n) row e in
    record {
      lengths = lengths-set m i j n row e;
      told = (row-item (set m i (set row j n)) i j (set row j n) here ∙ get-set-same row j n v f, tt);
      others = λ p. other p (eqb p.0 i) refl (eqb p.1 j) refl;
    }
  where
    other : (p : ℕ × ℕ) (b : Bool) → eqb p.0 i ≡ b → (c : Bool) → eqb p.1 j ≡ c
        → IsAmong p ((i, j) ∷ []) ⊎ (item_at (set m i (set row j n)) p ≡ item_at m p)
    other p true s true t =
        let first : p.0 ≡ i = eqb-true p.0 i s in
        let second : p.1 ≡ j = eqb-true p.1 j t in
        inl (inl (λ k. (first k, second k)))
    other p true s false t =
        let first : p.0 ≡ i = eqb-true p.0 i s in
        let new : slice_get (set m i (set row j n)) p.0 ≡ Some (set row j n) =
        ap (slice_get (set m i (set row j n))) first ∙ get-set-same m i (set row j n) row e in
        let old : slice_get m p.0 ≡ Some row = ap (slice_get m) first ∙ e in
        let apart : p.1 ≢ j = λ q. true≢false (sym (eq-eqb p.1 j q) ∙ t) in
        inr (row-item (set m i (set row j n)) p.0 p.1 (set row j n) new ∙ get-set-other row j p.1 n apart
        ∙ sym (row-item m p.0 p.1 row old))
    other p false s c t =
        let apart : p.0 ≢ i = λ q. true≢false (sym (eq-eqb p.0 i q) ∙ s) in
        inr (ap (option_and_then (λ xs. slice_get xs p.1)) (get-set-other m i p.0 (set row j n) apart))

-- the same where the lists are held
pub numbers-held : (vs : List (Vec ℕ Global)) (i j n : ℕ) (v : Vec ℕ Global)
    → is_some (item_at (lists_of vs) (i, j)) ≡ true → i < length vs
    → Numbers ((i, j) ∷ []) n (lists_of vs) (lists_of (set vs i (with_item (get_or vs i v) j n)))
numbers-held vs i j n v some h =
    let row = (get_or vs i v).items in
    let at : slice_get (lists_of vs) i ≡ Some row =
    slice_get-map (λ (w : Vec ℕ Global). w.items) vs i
    ∙ ap (option_map (λ (w : Vec ℕ Global). w.items)) (slice_get-get_or vs i v h) in
    let moved : lists_of (set vs i (with_item (get_or vs i v) j n)) ≡ set (lists_of vs) i (set row j n) =
    map-set (λ (w : Vec ℕ Global). w.items) vs i (with_item (get_or vs i v) j n) in
    go row at moved (slice_get row j) refl
  where
    go : (row : List ℕ) → slice_get (lists_of vs) i ≡ Some row
        → lists_of (set vs i (with_item (get_or vs i v) j n)) ≡ set (lists_of vs) i (set row j n) → (o : Option ℕ)
        → slice_get row j ≡ o
        → Numbers ((i, j) ∷ []) n (lists_of vs) (lists_of (set vs i (with_item (get_or vs i v) j n)))
    go row at moved None e = absurd (true≢false (sym some ∙ ap is_some (row-item (lists_of vs) i j row at ∙ e)))
    go row at moved (Some x) e = subst (Numbers ((i, j) ∷ []) n (lists_of vs)) (sym moved) (numbers-one (lists_of vs) i j n x row at e)

-- a list that has an item is one of the lists
pub row-below : (vs : List (Vec ℕ Global)) (i j : ℕ) → is_some (item_at (lists_of vs) (i, j)) ≡ true → i < length vs
row-below [] i j e = absurd (true≢false (sym e))
row-below (v ∷ vs) zero j e = omega arith
row-below (v ∷ vs) (suc i) j e = let more = row-below vs i j e in omega arith

-- ---- several items

-- before the first place, none is given the number yet, and each is there
pub given-start : (places : List (ℕ × ℕ)) (n : ℕ) (m : List (List ℕ))
    → AllByRecursion (λ p. is_some (item_at m p) ≡ true) places → AreGiven places places n m m
given-start places n m h = record {
  lengths = refl;
  within = h;
  among = all-in (λ p. IsAmong p places) places (λ p i. i);
  told = λ p i. inl i;
  others = λ p. inr refl;
}

-- what is still to be given has an item
pub given-within : (places left : List (ℕ × ℕ)) (p : ℕ × ℕ) (n : ℕ) (old new : List (List ℕ))
    → AreGiven places (p ∷ left) n old new → is_some (item_at new p) ≡ true
given-within places left p n old new g = some-same old new g.lengths p.0 p.1 ∙ g.within.0

-- a place that is given the number is one less that is left
pub given-more : (places left : List (ℕ × ℕ)) (p : ℕ × ℕ) (n : ℕ) (old new newer : List (List ℕ))
    → AreGiven places (p ∷ left) n old new → Numbers (p ∷ []) n new newer → AreGiven places left n old newer
given-more places left p n old new newer g one = record {
  lengths = one.lengths ∙ g.lengths;
  within = g.within.1;
  among = g.among.1;
  told = told;
  others = others;
}
  where
    at-p : (q : ℕ × ℕ) → q ≡ p → item_at newer q ≡ Some n
    at-p q e = ap (item_at newer) e ∙ one.told.0

    keeps : (q : ℕ × ℕ) → item_at new q ≡ Some n → item_at newer q ≡ Some n
    keeps q e = elim (one.others q) [ inl i ↦ elim i [ inl s ↦ at-p q s | inr none ↦ absurd none ] | inr same ↦ same ∙ e ]

    told : (q : ℕ × ℕ) → IsAmong q places → IsAmong q left ⊎ (item_at newer q ≡ Some n)
    told q i = elim (g.told q i) [ inl w ↦ elim w [ inl s ↦ inr (at-p q s) | inr rest ↦ inl rest ] | inr e ↦ inr (keeps q e) ]

    others : (q : ℕ × ℕ) → IsAmong q places ⊎ (item_at newer q ≡ item_at old q)
    others q = elim (one.others q) [
      | inl i ↦ elim i [ inl s ↦ inl (subst (λ v. IsAmong v places) (sym s) g.among.0) | inr none ↦ absurd none ]
      | inr same ↦ elim (g.others q) [ inl i ↦ inl i | inr kept ↦ inr (same ∙ kept) ]
    ]

-- where no place is left, all have been given the number
pub given-end : (places : List (ℕ × ℕ)) (n : ℕ) (old new : List (List ℕ)) → AreGiven places [] n old new → Numbers places n old new
given-end places n old new g = record {
  lengths = g.lengths;
  told = all-in (λ p. item_at new p ≡ Some n) places (λ p i. elim (g.told p i) [ inl none ↦ absurd none | inr e ↦ e ]);
  others = g.others;
}

-- places in another order
pub numbers-moved : (places moved : List (ℕ × ℕ)) (n : ℕ) (old new : List (List ℕ)) → IsPermutation moved places
    → Numbers places n old new → Numbers moved n old new
numbers-moved places moved n old new p g = record {
  lengths = g.lengths;
  told = all-moved (λ q. item_at new q ≡ Some n) places moved (IsPermutation-sym moved places p) g.told;
  others = λ q. elim (g.others q) [ inl i ↦ inl (in-moved q places moved (IsPermutation-sym moved places p) i) | inr same ↦ inr same ];
}
