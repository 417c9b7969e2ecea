-- Columns by their places.
use Rattle.std.proofs.Common.{◌≡◌, ℕ, zero, suc, ◌+◌, ◌<◌, ◌≤◌, List, [], ◌∷◌, ◌++◌, Bool, true, false, cond, Option, Some, None, length, set, get_or, slice_get, refl, sym, ◌∙◌, ap, subst, true≢false, string_bytes, drop, drop-cons, add-one, arith, length-append}
use Rattle.std.specs.Prelude.{bytes_eq, ◌||◌, String}
use Rattle.std.specs.BTreeMap.{BTreeMap, is_at, get_by_text, Updates}
use Rattle.std.specs.Cmp.Lexicographic.{slice_cmp}
use Rattle.std.specs.List.{list_any, IsDistinct, AllByRecursion}
use Rattle.std.specs.Map.{lookup, update}
use Rattle.std.specs.Ordering.{nat_cmp}
use Rattle.std.specs.String.{string_cmp}
use Rattle.std.specs.declared.alloc.Global.{Global}
use Rattle.std.proofs.lemmas.Cmp.{nat_list_eq_equiv}
use Rattle.std.proofs.lemmas.List.{map-append, drop_all, get_or_append_left, get_or_push}
use Rattle.std.proofs.lemmas.List.Folds.{list_any-append}
use Rattle.std.proofs.lemmas.Map.Keys.{IsDistinct-push}
use Rattle.std.proofs.lemmas.Map.Text.{btree_map_updates_text}
use Rattle.std.proofs.lemmas.Option.{same_Some, slice_get-get_or, slice_get_within, slice_get_read, get_or_from_slice_get}
use Rattle.std.proofs.lemmas.Slice.Eq.{bytes_eq-Decides}
use Rattle.col_writer.specs.Changes.{ByName, column_at, SetsColumn}
use Rattle.col_writer.specs.Places.{names_of, IsPlaceOf, ArePlaced}

neither : (a b : Bool) → (a || b) ≡ false → (a ≡ false) × (b ≡ false)
neither true b e = absurd (true≢false e)
neither false b e = (refl, e)

-- two tests that don't both hold may be asked in either order
either_order : {X : Type 0} (a b : Bool) (x y r : Option X) → (a ≡ true → b ≡ true → ⊥) → cond a x (cond b y r) ≡ cond b y (cond a x r)
either_order true true x y r h = absurd (h refl refl)
either_order true false x y r h = refl
either_order false true x y r h = refl
either_order false false x y r h = refl

same_name : (xs ys : List ℕ) → bytes_eq xs ys ≡ true → xs ≡ ys
same_name xs ys = (bytes_eq-Decides xs ys).0

-- a name isn't both of two that differ
not_both : (a b name : List ℕ) → bytes_eq a b ≡ false → bytes_eq name a ≡ true → bytes_eq b name ≡ true → ⊥
not_both a b name differ e f =
    true≢false (sym ((bytes_eq-Decides a b).1 (sym (same_name name a e) ∙ sym (same_name b name f))) ∙ differ)

-- ---- what is left of a list

-- the item at a place, and what stands behind it
pub left-next : {A : Type 0} (xs seen : List A) (i : ℕ) (x : A) → seen ≡ xs → i < length seen → x ≡ get_or seen i x
    → drop i xs ≡ x ∷ drop (i + 1) xs
left-next xs seen i x is below here =
    let within : i < length xs = subst (λ ys. i < length ys) is below in
    let item : x ≡ get_or xs i x = here ∙ ap (λ ys. get_or ys i x) is in
    drop-cons xs i x within ∙ ap (λ y. y ∷ drop (suc i) xs) (sym item) ∙ ap (λ k. x ∷ drop k xs) (sym (add-one i))

-- behind the last item nothing is left
pub left-none : {A : Type 0} (xs seen : List A) (i : ℕ) → seen ≡ xs → length seen ≤ i → drop i xs ≡ []
left-none xs seen i is past = drop_all i xs (subst (λ ys. length ys ≤ i) is past)

-- ---- places

-- before the first name no name has a place
pub placed-none : (m : BTreeMap (String Global) ℕ) → m.entries ≡ [] → ArePlaced [] m
unfolding IsDistinct
placed-none m empty = record {
  differ = tt;
  placed = λ name. subst (IsPlaceOf [] name) (sym (ap (lookup (is_at (λ k. slice_cmp nat_cmp name (string_bytes k)))) empty)) refl;
}

-- a name more leaves the places of the others
place-kept : (ns : List (List ℕ)) (new name : List ℕ) (at : Option ℕ) → bytes_eq new name ≡ false → IsPlaceOf ns name at
    → IsPlaceOf (ns ++ new ∷ []) name at
place-kept ns new name None other none =
    list_any-append (bytes_eq name) ns (new ∷ []) ∙ ap (λ b. b || (bytes_eq name new || false)) none
    ∙ ap (λ b. b || false) (nat_list_eq_equiv.symm name new ∙ other)
place-kept ns new name (Some at) other here =
    let below = slice_get_within ns at name here in
    slice_get-get_or (ns ++ new ∷ []) at [] (omega (arith, below, length-append ns (new ∷ [])))
    ∙ ap Some (get_or_append_left ns (new ∷ []) [] at below ∙ get_or_from_slice_get ns at name [] here)

-- a new name has the place behind all
pub placed-more : (ns : List (List ℕ)) (name : List ℕ) (m n : BTreeMap (String Global) ℕ) → ArePlaced ns m
    → list_any (bytes_eq name) ns ≡ false
    → ((bs : List ℕ) → get_by_text n bs ≡ update bytes_eq (get_by_text m) name (Some (length ns)) bs)
    → ArePlaced (ns ++ name ∷ []) n
placed-more ns name m n a fresh set_there = record {
  differ = IsDistinct-push nat_list_eq_equiv ns name a.differ fresh;
  placed = λ bs. subst (IsPlaceOf (ns ++ name ∷ []) bs) (sym (set_there bs)) (go bs (bytes_eq name bs) refl);
}
  where
    go : (bs : List ℕ) (b : Bool) → bytes_eq name bs ≡ b
        → IsPlaceOf (ns ++ name ∷ []) bs (cond b (Some (length ns)) (get_by_text m bs))
    go bs true e =
        slice_get-get_or (ns ++ name ∷ []) (length ns) [] (omega (arith, length-append ns (name ∷ [])))
        ∙ ap Some (get_or_push ns name [] (length ns) refl ∙ same_name name bs e)
    go bs false e = place-kept ns name bs (get_by_text m bs) e (a.placed bs)

-- ---- columns

module _ {X : Type 0} where
  -- each column has a name
  many_names : (es : ByName X) → length (names_of es) ≡ length es
  many_names [] = refl
  many_names (e ∷ es) = ap suc (many_names es)

  -- a name that none has is that of no column
  pub column-missing : (name : List ℕ) (es : ByName X) → list_any (bytes_eq name) (names_of es) ≡ false → column_at name es ≡ None
  column-missing name [] none = refl
  column-missing name (e ∷ es) none =
      let parts = neither (bytes_eq name (string_bytes e.0)) (list_any (bytes_eq name) (names_of es)) none in
      ap (λ b. cond b (Some e.1) (column_at name es)) parts.0 ∙ column-missing name es parts.1

  -- and the other way round
  pub name-missing : (name : List ℕ) (es : ByName X) → column_at name es ≡ None → list_any (bytes_eq name) (names_of es) ≡ false
  name-missing name [] none = refl
  name-missing name (e ∷ es) none =
      go (bytes_eq name (string_bytes e.0)) (column_at name es) (list_any (bytes_eq name) (names_of es)) none (name-missing name es)
    where
      go : (b : Bool) (o : Option X) (any : Bool) → cond b (Some e.1) o ≡ None → (o ≡ None → any ≡ false) → (b || any) ≡ false
      go true o any e h = absurd cc
      go false o any e h = h e

  -- a name that differs from all differs from the one at a place
  differ-at : (n : List ℕ) (es : ByName X) (at : ℕ) (e : String Global × X)
      → AllByRecursion (λ m. bytes_eq n m ≡ false) (names_of es) → slice_get es at ≡ Some e → bytes_eq n (string_bytes e.0) ≡ false
  differ-at n [] at e all found = absurd cc
  differ-at n (f ∷ es) zero e all found =
      ap (λ (q : String Global × X). bytes_eq n (string_bytes q.0)) (sym (same_Some f e found)) ∙ all.0
  differ-at n (f ∷ es) (suc at) e all found = differ-at n es at e all.1 found

  -- the column at the place of a name is the name's
  pub column-found : (es : ByName X) (at : ℕ) (e : String Global × X) → IsDistinct bytes_eq (names_of es)
      → slice_get es at ≡ Some e → column_at (string_bytes e.0) es ≡ Some e.1
  unfolding IsDistinct
  column-found [] at e differ found = absurd cc
  column-found (f ∷ es) zero e differ found =
      let same = same_Some f e found in
      ap (λ b. cond b (Some f.1) (column_at (string_bytes e.0) es))
      ((bytes_eq-Decides (string_bytes e.0) (string_bytes f.0)).1 (ap (λ (q : String Global × X). string_bytes q.0) (sym same)))
      ∙ ap (λ (q : String Global × X). Some q.1) same
  column-found (f ∷ es) (suc at) e differ found =
      ap (λ b. cond b (Some f.1) (column_at (string_bytes e.0) es))
      (nat_list_eq_equiv.symm (string_bytes e.0) (string_bytes f.0) ∙ differ-at (string_bytes f.0) es at e differ.0 found)
      ∙ column-found es at e differ.1 found

  -- a column that is written at its place is set under its name
  pub column-set : (es : ByName X) (at : ℕ) (e : String Global × X) (w : X) → IsDistinct bytes_eq (names_of es)
      → slice_get es at ≡ Some e → SetsColumn (string_bytes e.0) w es (set es at (e.0, w))
  unfolding IsDistinct
  column-set [] at e w differ found other = absurd cc
  column-set (f ∷ es) zero e w differ found other =
      let mine = nat_list_eq_equiv.symm other (string_bytes e.0) in
      let same : bytes_eq (string_bytes e.0) other ≡ bytes_eq other (string_bytes f.0) = sym mine
      ∙ ap (λ (q : String Global × X). bytes_eq other (string_bytes q.0)) (sym (same_Some f e found)) in
      ap (λ b. cond b (Some w) (column_at other es)) mine
      ∙ go (bytes_eq (string_bytes e.0) other)
      ∙ ap (λ b. cond (bytes_eq (string_bytes e.0) other) (Some w) (cond b (Some f.1) (column_at other es))) same
    where
      go : (b : Bool) → cond b (Some w) (column_at other es) ≡ cond b (Some w) (cond b (Some f.1) (column_at other es))
      go true = refl
      go false = refl
  column-set (f ∷ es) (suc at) e w differ found other =
      ap (cond (bytes_eq other (string_bytes f.0)) (Some f.1)) (column-set es at e w differ.1 found other)
      ∙ either_order (bytes_eq other (string_bytes f.0)) (bytes_eq (string_bytes e.0) other) (Some f.1) (Some w) (column_at other es)
      (not_both (string_bytes f.0) (string_bytes e.0) other (differ-at (string_bytes f.0) es at e differ.0 found))

  -- a column that is new comes under its name
  pub column-push : (es : ByName X) (key : String Global) (w : X) → column_at (string_bytes key) es ≡ None
      → SetsColumn (string_bytes key) w es (es ++ (key, w) ∷ [])
  column-push [] key w none other = ap (λ b. cond b (Some w) None) (nat_list_eq_equiv.symm other (string_bytes key))
  column-push (f ∷ es) key w none other =
      let parts = neither (bytes_eq (string_bytes key) (string_bytes f.0)) (list_any (bytes_eq (string_bytes key)) (names_of es))
      (name-missing (string_bytes key) (f ∷ es) none) in
      ap (cond (bytes_eq other (string_bytes f.0)) (Some f.1))
      (column-push es key w (column-missing (string_bytes key) es parts.1) other)
      ∙ either_order (bytes_eq other (string_bytes f.0)) (bytes_eq (string_bytes key) other) (Some f.1) (Some w) (column_at other es)
      (not_both (string_bytes f.0) (string_bytes key) other (nat_list_eq_equiv.symm (string_bytes f.0) (string_bytes key) ∙ parts.0))

  -- a column that is written leaves the names
  pub names-set : (es : ByName X) (at : ℕ) (e : String Global × X) (w : X) → slice_get es at ≡ Some e
      → names_of (set es at (e.0, w)) ≡ names_of es
  names-set [] at e w found = absurd cc
  names-set (f ∷ es) zero e w found =
      ap (λ (q : String Global × X). string_bytes q.0 ∷ names_of es) (sym (same_Some f e found))
  names-set (f ∷ es) (suc at) e w found = ap (λ ns. string_bytes f.0 ∷ ns) (names-set es at e w found)

  -- the name of the column at a place
  pub name-at : (es : ByName X) (at : ℕ) (e : String Global × X) → slice_get es at ≡ Some e
      → slice_get (names_of es) at ≡ Some (string_bytes e.0)
  name-at [] at e found = absurd cc
  name-at (f ∷ es) zero e found = ap (λ (q : String Global × X). Some (string_bytes q.0)) (same_Some f e found)
  name-at (f ∷ es) (suc at) e found = name-at es at e found

  module _ (name : List ℕ) (es : ByName X) (at : ℕ) (e : String Global × X)
      (here : slice_get (names_of es) at ≡ Some name) (is : e ≡ get_or es at e) where
    -- what stands at the place of a name
    entry-there : slice_get es at ≡ Some e
    entry-there =
        let below = slice_get_within (names_of es) at name here in
        slice_get_read es (length es) at e refl (omega (arith, below, many_names es)) is

    -- it has the name
    name-there : string_bytes e.0 ≡ name
    name-there = same_Some (string_bytes e.0) name (sym (name-at es at e entry-there) ∙ here)

    -- it is the name's column
    pub placed-column : IsDistinct bytes_eq (names_of es) → column_at name es ≡ Some e.1
    placed-column differ = subst (λ n. column_at n es ≡ Some e.1) name-there (column-found es at e differ entry-there)

    -- which is set where it is written
    pub placed-set : (w : X) → IsDistinct bytes_eq (names_of es) → SetsColumn name w es (set es at (e.0, w))
    placed-set w differ =
        subst (λ n. SetsColumn n w es (set es at (e.0, w))) name-there (column-set es at e w differ entry-there)

    -- with the names as they were
    pub placed-names : (w : X) → names_of (set es at (e.0, w)) ≡ names_of es
    placed-names w = names-set es at e w entry-there

  -- where a map knows no place there is no column
  pub nowhere : (name : List ℕ) (seen es old : ByName X) → IsPlaceOf (names_of seen) name None → seen ≡ es → es ≡ old
      → column_at name old ≡ None
  nowhere name seen es old none opened is = column-missing name old (ap (λ cs. list_any (bytes_eq name) (names_of cs)) (sym (opened ∙ is)) ∙ none)

  module _ (name : List ℕ) (seen es old : ByName X) (at : ℕ) (e : String Global × X)
      (here : slice_get (names_of seen) at ≡ Some name) (opened : seen ≡ es) (is : es ≡ old) (read : e ≡ get_or es at e)
      (differ : IsDistinct bytes_eq (names_of es)) where
    there : slice_get (names_of es) at ≡ Some name
    there = ap (λ cs. slice_get (names_of cs) at) (sym opened) ∙ here

    -- where it knows one the name's column stands there
    pub found-there : column_at name old ≡ Some e.1
    found-there = subst (λ cs. column_at name cs ≡ Some e.1) is (placed-column name es at e there read differ)

    -- and is set by a write there
    pub set-there : (w : X) → SetsColumn name w old (set es at (e.0, w))
    set-there w = subst (λ cs. SetsColumn name w cs (set es at (e.0, w))) is (placed-set name es at e there read w differ)

    -- which leaves the places
    pub placed-there : (w : X) (m : BTreeMap (String Global) ℕ) → ArePlaced (names_of es) m → ArePlaced (names_of (set es at (e.0, w))) m
    placed-there w m a = subst (λ ns. ArePlaced ns m) (sym (placed-names name es at e there read w)) a

  -- a column that was pushed is set under its name
  pub pushed-set : (name : List ℕ) (key : String Global) (w : X) (es inside mid new : ByName X) → column_at name es ≡ None
      → string_bytes key ≡ name → inside ≡ es → mid ≡ inside → new ≡ mid ++ (key, w) ∷ []
      → SetsColumn (string_bytes key) w es new
  pushed-set name key w es inside mid new none is opened reserved pushed =
      subst (SetsColumn (string_bytes key) w es) (sym (pushed ∙ ap (λ cs. cs ++ (key, w) ∷ []) (reserved ∙ opened)))
      (column-push es key w (ap (λ n. column_at n es) is ∙ none))

  -- and its place is known
  pub pushed-placed : (name : List ℕ) (key other : String Global) (w : X) (es inside mid new : ByName X)
      (m n : BTreeMap (String Global) ℕ) (place : ℕ) → column_at name es ≡ None → string_bytes key ≡ name → string_bytes other ≡ name
      → inside ≡ es → mid ≡ inside → new ≡ mid ++ (key, w) ∷ [] → place ≡ length mid → ArePlaced (names_of inside) m
      → Updates string_cmp m n other (Some place) → ArePlaced (names_of new) n
  pushed-placed name key other w es inside mid new m n place none is also opened reserved pushed at a u =
      let names : names_of new ≡ names_of inside ++ name ∷ [] = ap names_of (pushed ∙ ap (λ cs. cs ++ (key, w) ∷ []) reserved)
      ∙ map-append (λ (q : String Global × X). string_bytes q.0) inside ((key, w) ∷ []) ∙ ap (λ k. names_of inside ++ k ∷ []) is in
      let many : place ≡ length (names_of inside) = at ∙ ap length reserved
      ∙ sym (many_names inside) in
      subst (λ ns. ArePlaced ns n) (sym names) (placed-more (names_of inside) name m n a
      (name-missing name inside (ap (column_at name) opened ∙ none))
      (λ bs. subst (λ k. get_by_text n bs ≡ update bytes_eq (get_by_text m) k (Some (length (names_of inside))) bs) also
      (subst (λ k. get_by_text n bs ≡ update bytes_eq (get_by_text m) (string_bytes other) (Some k) bs) many
      (btree_map_updates_text (string_bytes other) m n (Some place) u bs))))
