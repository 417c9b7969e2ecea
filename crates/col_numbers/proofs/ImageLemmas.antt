-- Lists of numbers that stand for values of a type.
use Rattle.std.proofs.Common.{◌≡◌, ℕ, zero, suc, ◌<◌, ◌≤◌, ◌^◌, nat_lt, max, Bool, true, List, [], ◌∷◌, length, Contains, Option, Some, None, refl, sym, ap, ◌∙◌, arith, subst, slice_index, cond, inl, inr}
use Rattle.std.specs.Option.{option_map, IfNone}
use Rattle.std.proofs.lemmas.Option.{none-some}
use Rattle.col_common.specs.Ascending.{AreBelow}
use Rattle.col_numbers.specs.CodecTypes.{code_of}
use Rattle.col_numbers.specs.declared.codec_type.CodecType.{CodecType}
use Rattle.std.specs.List.{AllByRecursion, All, list_all}
use Rattle.std.proofs.lemmas.Bool.{and_parts, and_from, lt-ltb, cases_lt}
use Rattle.std.proofs.lemmas.List.Elements.{All-from_recursion, recursion_from_All, All-contains, All-contains_itself}
use Rattle.std.proofs.lemmas.List.Sums.{AllPass-from_list_all}
use Rattle.col_common.specs.Reading.{◌>>=◌, only_if}
use Rattle.col_model.specs.Stats.{Stats, stats_of, stats_at, same_stats, least_of, greatest_of}
use Rattle.col_model.specs.U64List.{values64, values_by}
use Rattle.col_model.proofs.StatsLaws.{all_by, fold-max, fold-max-one}
use Rattle.col_model.proofs.TestLaws.{both-ways}
use Rattle.col_model.proofs.CollectLaws.{fold-min-one}
use Rattle.col_values.specs.Bounds.{IsOfValues}
use Rattle.col_values.specs.Monotonic.{Passes}
use Rattle.col_values.specs.Laws.{ImagesReachDown}
use Rattle.col_values.specs.Codes.{is_below}
use Rattle.col_numbers.specs.Views.{is_seen}

-- ---- the bounds of a list are items of it

each-in : (xs : List ℕ) → AllByRecursion (Contains xs) xs
each-in xs = recursion_from_All (Contains xs) xs (All-contains_itself xs)

-- the least of a list that isn't empty is one of its items
pub least-in : (xs : List ℕ) → IsOfValues xs (λ v. v ≡ least_of xs)
least-in [] v some e = absurd (omega arith)
least-in (x ∷ xs) v some e =
    subst (Contains (x ∷ xs)) (sym e) (fold-min-one (Contains (x ∷ xs)) x xs (each-in (x ∷ xs)).0 (each-in (x ∷ xs)).1)

-- the greatest of a list that isn't empty is one of its items
pub greatest-in : (xs : List ℕ) → IsOfValues xs (λ v. v ≡ greatest_of xs)
greatest-in [] v some e = absurd (omega arith)
greatest-in (x ∷ xs) v some e =
    let first : x ≡ max 0 x = omega arith in
    subst (Contains (x ∷ xs)) (sym e) (fold-max-one (Contains (x ∷ xs)) (max 0 x) xs
    (subst (Contains (x ∷ xs)) first (each-in (x ∷ xs)).0) (each-in (x ∷ xs)).1)

-- ---- images

module _ (is_image : ℕ → Bool) where
  all-below : ImagesReachDown is_image → (xs : List ℕ) (top : ℕ) → AllByRecursion (λ x. x ≤ top) xs
      → is_image top ≡ true → list_all is_image xs ≡ true
  all-below down [] top below t = refl
  all-below down (x ∷ xs) top below t = and_from _ _ (down x top below.0 t) (all-below down xs top below.1 t)

  -- the greatest item of a list of images is one
  greatest-image : (xs : List ℕ) → 0 < length xs → list_all is_image xs ≡ true → is_image (greatest_of xs) ≡ true
  greatest-image xs some t =
      All-contains (Passes is_image) xs (greatest_of xs) (AllPass-from_list_all is_image xs t)
      (greatest-in xs (greatest_of xs) some refl)

  -- where images reach down, the greatest item tells of all
  pub greatest-tells : ImagesReachDown is_image → (xs : List ℕ) → 0 < length xs → is_image (greatest_of xs) ≡ list_all is_image xs
  greatest-tells down xs some = both-ways _ _ (all-below down xs (greatest_of xs) (fold-max 0 xs).1) (greatest-image xs some)

  all_passed : (xs : List ℕ) → AreBelow (2 ^ 64) xs → list_all is_image xs ≡ true
      → AllByRecursion (Passes (is_seen (is_below (2 ^ 64)) (λ n. n) is_image)) xs
  all_passed [] fit t = tt
  all_passed (x ∷ xs) fit t =
      let p = and_parts _ _ t in
      let below = lt-ltb x (2 ^ 64) fit.0 in
      (and_from _ _ below (and_from _ _ below p.0), all_passed xs fit.1 p.1)

  -- images of 64 bits can be seen as they are
  pub images-seen : (xs : List ℕ) → AreBelow (2 ^ 64) xs → list_all is_image xs ≡ true
      → All (Passes (is_seen (is_below (2 ^ 64)) (λ n. n) is_image)) xs
  images-seen xs fit t = All-from_recursion (Passes (is_seen (is_below (2 ^ 64)) (λ n. n) is_image)) xs (all_passed xs fit t)

-- each item fits where the greatest one does
pub all-fit : (xs : List ℕ) (top : ℕ) → top ≡ greatest_of xs → top < 2 ^ 64 → AreBelow (2 ^ 64) xs
all-fit xs top e fits = all_by (λ x p. omega (arith, p, e)) xs (fold-max 0 xs).1

none_behind : (code : ℕ) (o : Option (Stats × List ℕ)) → 3 ≤ code
    → (o >>= λ s. values_by code s.0 s.1 >>= λ xs. only_if (same_stats (stats_of xs) s.0) xs) ≡ None
none_behind code None h = refl
none_behind (suc (suc (suc code))) (Some s) h = refl
none_behind zero (Some s) h = absurd (omega arith)
none_behind (suc zero) (Some s) h = absurd (omega arith)
none_behind (suc (suc zero)) (Some s) h = absurd (omega arith)

-- no list stands behind a code of no codec
pub values64-other : (code : ℕ) (bytes : List ℕ) → 3 ≤ code → values64 (code ∷ bytes) ≡ None
unfolding values64
values64-other code bytes h = none_behind code (stats_at bytes) h

-- no bytes stand for no list
pub values64-nothing : (bytes : List ℕ) → length bytes < 1 → values64 bytes ≡ None
unfolding values64
values64-nothing [] h = refl
values64-nothing (b ∷ bytes) h = absurd (omega arith)

-- the first byte is no codec's code
pub values64-no_codec : (bytes : List ℕ) (found : Option CodecType) → 1 ≤ length bytes
    → option_map code_of found ≡ only_if (nat_lt (slice_index bytes 0) 3) (slice_index bytes 0)
    → IfNone found (values64 bytes ≡ None)
values64-no_codec bytes (Some c) h e = tt
values64-no_codec [] None h e = absurd (omega arith)
values64-no_codec (b ∷ bytes) None h e = elim (cases_lt b 3) [
  | inl p ↦ absurd (none-some b (e ∙ ap (λ t. cond t (Some b) None) (lt-ltb b 3 p)))
  | inr p ↦ values64-other b bytes p
]
