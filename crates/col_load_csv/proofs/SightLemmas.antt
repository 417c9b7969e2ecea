-- What is seen of fields, one after another.
use Rattle.std.proofs.Common.{◌≡◌, ◌∙◌, ◌+◌, ◌<◌, ◌≤◌, ◌⊎◌, ℕ, Bool, true, false, List, [], ◌∷◌, ◌++◌, filter, length, set, get_or, inl, inr, refl, sym, ap, subst, arith, length-set}
use Rattle.std.specs.Prelude.{◌&&◌}
use Rattle.std.proofs.lemmas.Bool.{cases_lt, cases_eq}
use Rattle.std.proofs.lemmas.List.{get_or-set_same, get_or-set_other}
use Rattle.std.proofs.lemmas.List.Folds.{list_all-append}
use Rattle.col_model.specs.ColumnType.{ColumnType}
use Rattle.col_model.specs.ColumnType as types
use Rattle.col_model.proofs.TestLaws.{and_regrouped}
use Rattle.col_load_csv.specs.Documents.{is_filled}
use Rattle.col_load_csv.specs.Kinds.{is_number, is_text_of, is_whole}
use Rattle.col_load_csv.specs.Seen.{merged, seen_of, with_field}
use Rattle.col_load_csv.specs.Sights.{SeesFields, sight_at}
use Rattle.col_load_csv.specs.declared.seen.Seen.{Seen}

-- ---- some and others

and-true : (a : Bool) → (a && true) ≡ a
and-true true = refl
and-true false = refl

pub merged_assoc : (a b c : Seen) → merged a (merged b c) ≡ merged (merged a b) c
merged_assoc a b c = λ i. record {
  signed = and_regrouped a.signed b.signed c.signed i;
  unsigned = and_regrouped a.unsigned b.unsigned c.unsigned i;
  numbers = and_regrouped a.numbers b.numbers c.numbers i;
  whole = and_regrouped a.whole b.whole c.whole i;
  flags = and_regrouped a.flags b.flags c.flags i;
}

-- with nothing more
pub merged_none : (a : Seen) → merged a (seen_of []) ≡ a
merged_none a = λ i. record {
  signed = and-true a.signed i;
  unsigned = and-true a.unsigned i;
  numbers = and-true a.numbers i;
  whole = and-true a.whole i;
  flags = and-true a.flags i;
}

-- of some texts and others
pub seen_append : (xs ys : List (List ℕ)) → seen_of (xs ++ ys) ≡ merged (seen_of xs) (seen_of ys)
seen_append xs ys = λ i. record {
  signed = list_all-append (is_text_of types.i64) xs ys i;
  unsigned = list_all-append (is_text_of types.u64) xs ys i;
  numbers = list_all-append is_number xs ys i;
  whole = list_all-append is_whole xs ys i;
  flags = list_all-append (is_text_of types.bool) xs ys i;
}

-- a field more, in front of others
pub sight_more : (s : Seen) (field : List ℕ) (texts : List (List ℕ))
    → merged s (seen_of (filter is_filled (field ∷ texts))) ≡ merged (with_field s field) (seen_of (filter is_filled texts))
sight_more s [] texts = refl
sight_more s (b ∷ bs) texts =
    ap (merged s) (seen_append ((b ∷ bs) ∷ []) (filter is_filled texts))
    ∙ merged_assoc s (seen_of ((b ∷ bs) ∷ [])) (seen_of (filter is_filled texts))

-- a field that isn't empty
pub field_seen : (a next : Seen) (s : List ℕ) → 0 < length s → next.signed ≡ (a.signed && is_text_of types.i64 s)
    → next.unsigned ≡ (a.unsigned && is_text_of types.u64 s) → next.numbers ≡ (a.numbers && is_number s)
    → next.whole ≡ (a.whole && is_whole s) → next.flags ≡ (a.flags && is_text_of types.bool s) → next ≡ with_field a s
field_seen a next [] some signed unsigned numbers whole flags = absurd (omega arith)
field_seen a next (b ∷ bs) some signed unsigned numbers whole flags = λ i. record {
  signed = (signed ∙ ap (λ x. a.signed && x) (sym (and-true (is_text_of types.i64 (b ∷ bs))))) i;
  unsigned = (unsigned ∙ ap (λ x. a.unsigned && x) (sym (and-true (is_text_of types.u64 (b ∷ bs))))) i;
  numbers = (numbers ∙ ap (λ x. a.numbers && x) (sym (and-true (is_number (b ∷ bs))))) i;
  whole = (whole ∙ ap (λ x. a.whole && x) (sym (and-true (is_whole (b ∷ bs))))) i;
  flags = (flags ∙ ap (λ x. a.flags && x) (sym (and-true (is_text_of types.bool (b ∷ bs))))) i;
}

-- ---- the fields of a record

-- those before a place were seen
pub record AreSeeing (fields : List (List ℕ)) (old new : List Seen) (place : ℕ) : Type 0 where
  pub many : length new ≡ length old
  pub past : (i : ℕ) → i < place → i < length old → sight_at new i ≡ with_field (sight_at old i) (get_or fields i [])
  pub left : (i : ℕ) → place ≤ i → sight_at new i ≡ sight_at old i

pub seeing_none : (fields : List (List ℕ)) (old : List Seen) → AreSeeing fields old old 0
seeing_none fields old = record { many = refl; past = λ i lt within. absurd (omega arith); left = λ i le. refl }

pub seeing_more : (fields : List (List ℕ)) (old new : List Seen) (place : ℕ) (x y : Seen) → place < length new → x ≡ sight_at new place
    → y ≡ with_field x (get_or fields place []) → AreSeeing fields old new place → AreSeeing fields old (set new place y) (place + 1)
seeing_more fields old new place x y within is made h = record {
  many = length-set new place y ∙ h.many;
  past = λ i lt inside. by i inside (cases_eq i place) lt;
  left = λ i le. get_or-set_other new place i y (seen_of []) (λ e. absurd (omega arith)) ∙ h.left i (omega arith);
}
  where
    here : sight_at (set new place y) place ≡ with_field (sight_at old place) (get_or fields place [])
    here =
        get_or-set_same new place y (seen_of []) within ∙ made
        ∙ ap (λ s. with_field s (get_or fields place [])) (is ∙ h.left place (omega arith))

    by : (i : ℕ) → i < length old → (i ≡ place) ⊎ (i ≡ place → ⊥) → i < place + 1
        → sight_at (set new place y) i ≡ with_field (sight_at old i) (get_or fields i [])
    by i inside (inl e) lt =
        subst (λ i. sight_at (set new place y) i ≡ with_field (sight_at old i) (get_or fields i [])) (sym e) here
    by i inside (inr other) lt =
        get_or-set_other new place i y (seen_of []) other ∙ h.past i (below i other lt) inside
      where
        below : (i : ℕ) → (i ≡ place → ⊥) → i < place + 1 → i < place
        below i other lt = elim (cases_lt i place) [
          | inl lt' ↦ lt'
          | inr le ↦ absurd (other (omega (arith, lt, le)))
        ]

pub seeing_all : (fields : List (List ℕ)) (old new : List Seen) (place : ℕ) → length new ≤ place → AreSeeing fields old new place
    → SeesFields fields old new
seeing_all fields old new place past h = record {
  many = h.many;
  seen = λ i inside. h.past i (let many = h.many in omega (arith, many, past, inside)) inside;
}
