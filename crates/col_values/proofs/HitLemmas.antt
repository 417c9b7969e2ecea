-- Steps of a lookup, and of a copy of a part.
use Rattle.std.proofs.Common.{◌≡◌, ℕ, zero, suc, ◌+◌, ◌<◌, ◌≤◌, Bool, true, false, cond, List, [], ◌∷◌, ◌++◌, length, take, drop, set, get_or, slice_get, Option, Some, None, map, ◌&&◌, ap₂, refl, sym, ap, ◌∙◌, add-zero, append-nil, arith}
use mir.Val.{bool_byte}
use Rattle.std.specs.List.{All, AllByRecursion, filter, range_with_len}
use Rattle.std.specs.Ordering.{partial_le}
use Rattle.std.specs.declared.cmp.Ordering.{Ordering}
use Rattle.std.proofs.lemmas.Grind.{common_steps}
use Rattle.std.proofs.lemmas.List.{take_more, take_more_set, take-set, drop_more, get_or-drop, length-drop, length-map}
use Rattle.std.proofs.lemmas.List.Elements.{filter-append, filter_agree, recursion_from_All}
use Rattle.std.proofs.lemmas.Option.{get_or_from_slice_get}
use Rattle.std.specs.Int.{is_in_range}
use Rattle.std.proofs.lemmas.Bool.Decides.{nat_tests}
use Rattle.col_common.specs.Ascending.{is_rising}
use Rattle.col_common.proofs.OrderingLemmas.{filtered_rises}
use Rattle.col_model.proofs.ListLaws.{range-more, filter-none}
use Rattle.col_common.proofs.KeptLemmas.{kept_more}
use Rattle.col_values.specs.Monotonic.{Passes}
use Rattle.col_values.specs.Values.{passes, hits, hits_between, is_between, span}
use Rattle.col_values.specs.Codes.{number_cmp}

-- no position, no hit
pub hits_none : {T : Type 0} (test : T → Bool) (values : List T) (from n : ℕ) → n ≡ 0 → hits test values from n ≡ []
unfolding hits
hits_none test values from n none = ap (λ k. filter (λ row. passes test (slice_get values row)) (range_with_len from k)) none

-- one position more
hits_more : {T : Type 0} (test : T → Bool) (values : List T) (from n m row : ℕ) (v : T) (b : Bool) → from + n ≡ row
    → m ≡ n + 1 → slice_get values row ≡ Some v → test v ≡ b
    → hits test values from m ≡ hits test values from n ++ cond b (row ∷ []) []
unfolding hits
hits_more test values from n m row v b at next value answer =
    let p = λ (k : ℕ). passes test (slice_get values k) in
    let e : filter p (range_with_len from (n + 1)) ≡ filter p (range_with_len from n) ++ filter p ((from + n) ∷ [])
    = ap (filter p) (range-more from n) ∙ filter-append p (range_with_len from n) _ in
    ap (hits test values from) next ∙ e ∙ ap (λ k. hits test values from n ++ filter p (k ∷ [])) at
    ∙ ap (λ w. hits test values from n ++ cond (passes test w) (row ∷ []) []) value
    ∙ ap (λ w. hits test values from n ++ cond w (row ∷ []) []) answer

range_joined : (a n m b k : ℕ) → a + n ≡ b → k ≡ n + m → range_with_len a n ++ range_with_len b m ≡ range_with_len a k
range_joined a zero m b k at all =
    let here : b ≡ a = omega arith in
    let count : m ≡ k = omega arith in
    λ i. range_with_len (here i) (count i)
range_joined a (suc n) m b k at all =
    let count : suc (n + m) ≡ k = omega arith in
    ap (λ l. a ∷ l) (range_joined (a + 1) n m b (n + m) (omega arith) refl) ∙ ap (range_with_len a) count

-- the hits of one block behind those of another
pub hits_joined : {T : Type 0} (test : T → Bool) (values : List T) (from n m mid k : ℕ) → from + n ≡ mid → k ≡ n + m
    → hits test values from n ++ hits test values mid m ≡ hits test values from k
unfolding hits
hits_joined test values from n m mid k at all =
    let p = λ (row : ℕ). passes test (slice_get values row) in
    sym (filter-append p (range_with_len from n) (range_with_len mid m)) ∙ ap (filter p) (range_joined from n m mid k at all)

-- A position is written at the next slot, and kept there where its value passes.
pub kept_hits : {T : Type 0} (test : T → Bool) (values : List T) (from n m row : ℕ) (v : T) (b : Bool)
    (slots : List ℕ) (kept : ℕ) → from + n ≡ row → m ≡ n + 1 → slice_get values row ≡ Some v → b ≡ test v
    → kept < length slots → take kept slots ≡ hits test values from n
    → take (kept + bool_byte b) (set slots kept row) ≡ hits test values from m
kept_hits test values from n m row v b slots kept at next value answer within so_far =
    kept_more slots kept row b within ∙ ap (λ rows. rows ++ cond b (row ∷ []) []) so_far
    ∙ sym (hits_more test values from n m row v b at next value (sym answer))

-- one value more of a part
pub part_more : {T : Type 0} (values out : List T) (start i : ℕ) (y : T) → slice_get values (start + i) ≡ Some y
    → i < length out → start + length out ≤ length values → take i out ≡ take i (drop start values)
    → take (i + 1) (set out i y) ≡ take (i + 1) (drop start values)
part_more values out start i y value within long so_far =
    let here : get_or (drop start values) i y ≡ y = get_or-drop start values i y ∙ get_or_from_slice_get values (start + i) y y value in
    let more : take (i + 1) (drop start values) ≡ take i (drop start values) ++
    (get_or (drop start values) i y ∷ []) = take_more (drop start values) i y
    (omega (arith, length-drop start values)) in
    grind (arith, common_steps, here, more, so_far)

-- the value at the front of what is left
pub front_value : {T : Type 0} (values : List T) (i : ℕ) (x : T) → slice_get values i ≡ Some x → i < length values
    → drop i values ≡ x ∷ drop (i + 1) values
front_value values i x value within =
    drop_more values i x within ∙ ap (λ v. v ∷ drop (i + 1) values) (get_or_from_slice_get values i x x value)

-- hits rise
pub hits_rise : {T : Type 0} (test : T → Bool) (values : List T) (from n : ℕ) → is_rising (hits test values from n) ≡ true
unfolding hits
hits_rise test values from n = filtered_rises (λ row. passes test (slice_get values row)) from n

-- no value passes, no hit
never : {X : Type 0} (o : Option X) → passes (λ _. false) o ≡ false
never None = refl
never (Some x) = refl

hits_never : {X : Type 0} (values : List X) (from n : ℕ) → hits (λ _. false) values from n ≡ []
unfolding hits
hits_never values from n =
    filter_agree (λ row. passes (λ _. false) (slice_get values row)) (λ _. false)
    (λ row. never (slice_get values row)) (range_with_len from n)
    ∙ filter-none (λ _. false) (λ _. refl) (range_with_len from n)

module _ {X Y : Type 0} (is_in : X → Bool) (there : X → Y) (p : Y → Bool) (q : X → Bool) (same : (x : X)
    → Passes is_in x → p (there x) ≡ q x) where
  passes_mapped : (values : List X) → AllByRecursion (Passes is_in) values → (row : ℕ)
      → passes p (slice_get (map there values) row) ≡ passes q (slice_get values row)
  passes_mapped [] all row = refl
  passes_mapped (x ∷ values) all zero = same x all.0
  passes_mapped (x ∷ values) all (suc row) = passes_mapped values all.1 row

  -- hits among what values are mapped to are hits among the values
  pub hits_mapped : (values : List X) → All (Passes is_in) values → (from n : ℕ) → hits p (map there values) from n ≡ hits q values from n
  unfolding hits
  hits_mapped values all from n =
      filter_agree (λ row. passes p (slice_get (map there values) row)) (λ row. passes q (slice_get values row))
      (passes_mapped values (recursion_from_All (Passes is_in) values all)) (range_with_len from n)

module _ {X Y : Type 0} (cx : X → X → Option Ordering) (cy : Y → Y → Option Ordering) (is_in : X → Bool) (there : X
    → Y) (values : List X) (all : All (Passes is_in) values) (low high : Y) where
  -- where no value is mapped to at least the lower end, or none to at most the upper one, there is no hit
  none_by : ((x : X) → Passes is_in x → is_between cy low high (there x) ≡ false) → (from to : ℕ)
      → hits_between cy (map there values) low high from to ≡ []
  none_by misses from to =
      hits_mapped is_in there (is_between cy low high) (λ _. false) misses values all from (span (length (map there values)) from to)
      ∙ hits_never values from (span (length (map there values)) from to)

  -- where no value comes to at least the lower end, there is no hit
  pub no_lower : ((x : X) → Passes is_in x → partial_le cy low (there x) ≡ false) → (from to : ℕ)
      → hits_between cy (map there values) low high from to ≡ []
  no_lower misses = none_by (λ x h. ap (λ b. b && partial_le cy (there x) high) (misses x h))

  both : (a b : Bool) → b ≡ false → (a && b) ≡ false
  both true b e = e
  both false b e = refl

  -- where no value comes to at most the upper end, there is no hit
  pub no_upper : ((x : X) → Passes is_in x → partial_le cy (there x) high ≡ false) → (from to : ℕ)
      → hits_between cy (map there values) low high from to ≡ []
  no_upper misses = none_by (λ x h. both (partial_le cy low (there x)) (partial_le cy (there x) high) (misses x h))

  -- the ends are moved to the values
  pub moved_ends : (a b : X) → ((x : X) → Passes is_in x → partial_le cy low (there x) ≡ partial_le cx a x)
      → ((x : X) → Passes is_in x → partial_le cy (there x) high ≡ partial_le cx x b) → (from to : ℕ)
      → hits_between cy (map there values) low high from to ≡ hits_between cx values a b from to
  moved_ends a b from_low to_high from to =
      hits_mapped is_in there (is_between cy low high) (is_between cx a b)
      (λ x h. ap₂ (λ s t. s && t) (from_low x h) (to_high x h)) values all from
      (span (length (map there values)) from to)
      ∙ ap (λ n. hits (is_between cx a b) values from (span n from to)) (length-map values there)

-- tests that agree on a range find the same in it
pub rows_same : (p q : ℕ → Bool) (a n : ℕ) → ((k : ℕ) → a ≤ k → k < a + n → p k ≡ q k)
    → filter p (range_with_len a n) ≡ filter q (range_with_len a n)
rows_same p q a zero same = refl
rows_same p q a (suc n) same =
    let rest = rows_same p q (a + 1) n (λ k h l. same k (omega arith) (omega arith)) in
    rw (same a (omega arith) (omega arith), rest) refl

-- numbers between two bounds are those in their range
pub in_between : (low high x : ℕ) → is_between number_cmp low high x ≡ is_in_range low high x
in_between low high x = grind (arith, nat_tests)

-- where no number of a range passes a test, none is left
pub rows_none : (p : ℕ → Bool) (a n : ℕ) → ((k : ℕ) → a ≤ k → k < a + n → p k ≡ false) → filter p (range_with_len a n) ≡ []
rows_none p a zero never = refl
rows_none p a (suc n) never =
    rw (never a (omega arith) (omega arith))
    (rows_none p (a + 1) n (λ k h l. never k (omega arith) (omega arith)))
