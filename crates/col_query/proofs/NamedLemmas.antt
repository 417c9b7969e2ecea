-- The entries that the steps of a query name.
use Rattle.std.proofs.Common.{◌≡◌, ◌⊎◌, ℕ, zero, suc, ◌<◌, ◌||◌, Bool, true, false, cond, List, [], ◌∷◌, ◌++◌, length, map, find, set, get_or, slice_get, is_some, Option, Some, None, option_and_then, refl, sym, ap, ◌∙◌, inl, inr, arith}
use Rattle.std.proofs.lemmas.Bool.{cases_eq, false≢true, or_cases}
use Rattle.std.proofs.lemmas.List.{length-set, get_or-set_same, get_or-set_other}
use Rattle.std.proofs.lemmas.List.Folds.{list_any-append}
use Rattle.std.proofs.lemmas.Option.{same_Some}
use Rattle.std.specs.Prelude.{string_bytes}
use Rattle.col_model.specs.ColumnType.{ColumnType}
use Rattle.col_model.specs.Keys.{Entry, are_keys}
use Rattle.col_model.proofs.SharedTypes.{some≢none}
use Rattle.col_model.proofs.ListLaws.{find-passes}
use Rattle.col_opened.proofs.KeyLemmas.{is_key, HasNone, HasOne, one-of-keys}
use Rattle.col_query.specs.Named.{names_entry, some_names_entry, marked, AreMarks}
use Rattle.col_questions.specs.declared.step.Joint.{Joint}
use Rattle.col_questions.specs.declared.step.Step.{Step}
use Rattle.col_questions.specs.declared.step.Step.TheVariants as steps
use Rattle.col_types.specs.Kinds.{kind_of}

-- a test that nothing passes finds nothing
pub find-none : {A : Type 0} (test : A → Bool) (xs : List A) → ((x : A) → test x ≡ false) → None ≡ find test xs
find-none test [] h = refl
find-none test (x ∷ xs) h = find-none test xs h ∙ sym (ap (λ b. cond b (Some x) (find test xs)) (h x))

-- a step that names no column finds no entry
pub unnamed : (s : Step) (es : List Entry)
    → (s ≡ steps.All) ⊎ ((s ≡ steps.Not) ⊎ (((j : Joint) × (s ≡ steps.Begin j)) ⊎ ((j : Joint) × (s ≡ steps.Join j))))
    → None ≡ find (names_entry s) es
unnamed s es is = find-none (names_entry s) es (λ e. by e is)
  where
    by : (e : Entry)
        → (s ≡ steps.All) ⊎ ((s ≡ steps.Not) ⊎ (((j : Joint) × (s ≡ steps.Begin j)) ⊎ ((j : Joint) × (s ≡ steps.Join j))))
        → names_entry s e ≡ false
    by e (inl is) = ap (λ s. names_entry s e) is
    by e (inr (inl is)) = ap (λ s. names_entry s e) is
    by e (inr (inr (inl p))) = ap (λ s. names_entry s e) p.1
    by e (inr (inr (inr p))) = ap (λ s. names_entry s e) p.1

none-there : {A : Type 0} (test : A → Bool) (es : List A) (i : ℕ) (x : A) → find test es ≡ None → slice_get es i ≡ Some x
    → test x ≡ true → ⊥
none-there test [] i x none here is = some≢none x (sym here)
none-there test (e ∷ es) i x none here is =
    by (test e) refl (λ i none here. none-there test es i x none here is) none i here
  where
    by : (b : Bool) → test e ≡ b → ((i : ℕ) → find test es ≡ None → slice_get es i ≡ Some x → ⊥)
        → cond b (Some e) (find test es) ≡ None → (i : ℕ) → slice_get (e ∷ es) i ≡ Some x → ⊥
    by true same behind none i here = some≢none e none
    by false same behind none zero here = false≢true (sym same ∙ ap test (same_Some e x here) ∙ is)
    by false same behind none (suc i) here = behind i none here

-- of entries of which one at most has a name and a type, no two have it
one-at : (name : List ℕ) (t : ColumnType) (es : List Entry) (i j : ℕ) (x y : Entry) → HasOne name t es
    → slice_get es i ≡ Some x → is_key name t x.key ≡ true → slice_get es j ≡ Some y → is_key name t y.key ≡ true → i ≡ j
one-at name t [] i j x y one here is there also = absurd (some≢none x (sym here))
one-at name t (e ∷ es) zero zero x y one here is there also = refl
one-at name t (e ∷ es) zero (suc j) x y one here is there also =
    absurd (behind es j (one.0 (ap (λ (z : Entry). is_key name t z.key) (same_Some e x here) ∙ is)) there)
  where
    behind : (es : List Entry) (j : ℕ) → HasNone name t es → slice_get es j ≡ Some y → ⊥
    behind [] j none there = some≢none y (sym there)
    behind (z ∷ zs) zero none there =
        false≢true (sym none.0 ∙ ap (λ (z : Entry). is_key name t z.key) (same_Some z y there) ∙ also)
    behind (z ∷ zs) (suc j) none there = behind zs j none.1 there
one-at name t (e ∷ es) (suc i) zero x y one here is there also =
    absurd (behind es i (one.0 (ap (λ (z : Entry). is_key name t z.key) (same_Some e y there) ∙ also)) here)
  where
    behind : (es : List Entry) (i : ℕ) → HasNone name t es → slice_get es i ≡ Some x → ⊥
    behind [] i none here = some≢none x (sym here)
    behind (z ∷ zs) zero none here =
        false≢true (sym none.0 ∙ ap (λ (z : Entry). is_key name t z.key) (same_Some z x here) ∙ is)
    behind (z ∷ zs) (suc i) none here = behind zs i none.1 here
one-at name t (e ∷ es) (suc i) (suc j) x y one here is there also = ap suc (one-at name t es i j x y one.1 here is there also)

-- the same of the entries that a step names
one-named : (s : Step) (es : List Entry) (i j : ℕ) (x y : Entry) → are_keys (map (λ e. e.key) es) ≡ true
    → slice_get es i ≡ Some x → names_entry s x ≡ true → slice_get es j ≡ Some y → names_entry s y ≡ true → i ≡ j
one-named (steps.Has name t) es i j x y keys here is there also =
    one-at (string_bytes name) (kind_of t) es i j x y (one-of-keys (string_bytes name) (kind_of t) es keys) here is there also
one-named (steps.Range name t lo hi) es i j x y keys here is there also =
    one-at (string_bytes name) (kind_of t) es i j x y (one-of-keys (string_bytes name) (kind_of t) es keys) here is there also
one-named steps.All es i j x y keys here is there also = absurd (false≢true is)
one-named steps.Not es i j x y keys here is there also = absurd (false≢true is)
one-named (steps.Begin k) es i j x y keys here is there also = absurd (false≢true is)
one-named (steps.Join k) es i j x y keys here is there also = absurd (false≢true is)

within : {A : Type 0} (es : List A) (i : ℕ) (x : A) → slice_get es i ≡ Some x → i < length es
within [] i x e = absurd (some≢none x (sym e))
within (y ∷ ys) zero x e = omega arith
within (y ∷ ys) (suc i) x e = let h = within ys i x e in omega (arith, h)

or-left : (a b : Bool) → a ≡ true → (a || b) ≡ true
or-left a b e = ap (λ a. a || b) e

or-right : (a b : Bool) → b ≡ true → (a || b) ≡ true
or-right true b e = refl
or-right false b e = e

or-nothing : (a : Bool) → (a || false) ≡ a
or-nothing true = refl
or-nothing false = refl

-- one step more
more-names : (ss : List Step) (s : Step) (e : Entry) → some_names_entry (ss ++ s ∷ []) e ≡ (some_names_entry ss e || names_entry s e)
more-names ss s e =
    list_any-append (λ s. names_entry s e) ss (s ∷ []) ∙ ap (λ b. some_names_entry ss e || b) (or-nothing (names_entry s e))

-- nothing more is marked where no entry is found
more-none : (ss : List Step) (s : Step) (es : List Entry) (flags : List Bool) → AreMarks ss es flags
    → find (names_entry s) es ≡ None → AreMarks (ss ++ s ∷ []) es flags
more-none ss s es flags m none = record {
  long = m.long;
  named = λ at e here flag. more-names ss s e ∙ or-left (some_names_entry ss e) (names_entry s e) (m.named at e here flag);
  whole = λ distinct at e here some.
      by at e here distinct (or_cases (some_names_entry ss e) (names_entry s e) (sym (more-names ss s e) ∙ some));
}
  where
    by : (at : ℕ) (e : Entry) → slice_get es at ≡ Some e → are_keys (map (λ e. e.key) es) ≡ true
        → (some_names_entry ss e ≡ true) ⊎ (names_entry s e ≡ true) → get_or flags at false ≡ true
    by at e here distinct (inl old) = m.whole distinct at e here old
    by at e here distinct (inr new) = absurd (none-there (names_entry s) es at e none here new)

-- the entry that is found is marked
more-one : (ss : List Step) (s : Step) (es : List Entry) (flags : List Bool) (place : ℕ) (x : Entry) → AreMarks ss es flags
    → slice_get es place ≡ Some x → names_entry s x ≡ true → AreMarks (ss ++ s ∷ []) es (set flags place true)
more-one ss s es flags place x m found is = record {
  long = length-set flags place true ∙ m.long;
  named = λ at e here flag. more-names ss s e ∙ told at e here flag (cases_eq at place);
  whole = λ distinct at e here some.
      by at e here distinct (or_cases (some_names_entry ss e) (names_entry s e) (sym (more-names ss s e) ∙ some)) (cases_eq at place);
}
  where
    inside : place < length flags
    inside = let h = within es place x found in let l = m.long in omega (arith, h, l)

    told : (at : ℕ) (e : Entry) → slice_get es at ≡ Some e → get_or (set flags place true) at false ≡ true
        → (at ≡ place) ⊎ (at ≡ place → ⊥) → (some_names_entry ss e || names_entry s e) ≡ true
    told at e here flag (inl same) =
        or-right (some_names_entry ss e) (names_entry s e)
        (ap (names_entry s) (same_Some e x (sym here ∙ ap (slice_get es) same ∙ found)) ∙ is)
    told at e here flag (inr other) =
        or-left (some_names_entry ss e) (names_entry s e)
        (m.named at e here (sym (get_or-set_other flags place at true false other) ∙ flag))

    kept : (at : ℕ) → (at ≡ place) ⊎ (at ≡ place → ⊥) → get_or flags at false ≡ true
        → get_or (set flags place true) at false ≡ true
    kept at (inl same) flag = ap (λ i. get_or (set flags place true) i false) same ∙ get_or-set_same flags place true false inside
    kept at (inr other) flag = get_or-set_other flags place at true false other ∙ flag

    by : (at : ℕ) (e : Entry) → slice_get es at ≡ Some e → are_keys (map (λ e. e.key) es) ≡ true
        → (some_names_entry ss e ≡ true) ⊎ (names_entry s e ≡ true) → (at ≡ place) ⊎ (at ≡ place → ⊥)
        → get_or (set flags place true) at false ≡ true
    by at e here distinct (inl old) same = kept at same (m.whole distinct at e here old)
    by at e here distinct (inr new) same =
        ap (λ i. get_or (set flags place true) i false) (one-named s es at place e x distinct here new found is)
        ∙ get_or-set_same flags place true false inside

-- the entry that a step finds is marked behind those of the steps before it
pub marks-more : (ss : List Step) (s : Step) (es : List Entry) (flags : List Bool) (place : Option ℕ) → AreMarks ss es flags
    → option_and_then (slice_get es) place ≡ find (names_entry s) es → is_some place ≡ is_some (find (names_entry s) es)
    → AreMarks (ss ++ s ∷ []) es (marked place flags)
marks-more ss s es flags None m found some = more-none ss s es flags m (sym found)
marks-more ss s es flags (Some place) m found some = by (find (names_entry s) es) refl
  where
    by : (o : Option Entry) → find (names_entry s) es ≡ o → AreMarks (ss ++ s ∷ []) es (set flags place true)
    by None e = absurd (false≢true (sym (ap is_some e) ∙ sym some))
    by (Some x) e = more-one ss s es flags place x m (found ∙ e) (find-passes (names_entry s) es x e)
