-- A list that is collected by a walk.
use Rattle.std.proofs.Common.{◌≡◌, ℕ, ◌+◌, ◌-◌, ◌<◌, ◌≤◌, ◌^◌, List, [], ◌∷◌, ◌++◌, length, sym, ◌∙◌, ap, arith, append_assoc, append-nil, length-append, subst}
use Rattle.col_common.specs.Ascending.{AreBelow}
use Rattle.col_model.specs.Stats.{stats_of}
use Rattle.col_model.proofs.StatsLaws.{all_by, fold-max}
use Rattle.col_codecs.specs.ColumnStats.{collected_of}
use Rattle.col_codecs.proofs.StatsLemmas.{collected-count}
use Rattle.col_codecs.specs.ColumnStats.{Collected}

-- what was collected, and what is left, are the items
pub record Collecting (P : List ℕ → Type 0) (left items : List ℕ) : Type 0 where
  pub found : List ℕ
  pub collected : P found
  pub all : found ++ left ≡ items

-- before the first item nothing is collected, and all items are left
pub collecting-init : (P : List ℕ → Type 0) (left items : List ℕ) → P [] → left ≡ items → Collecting P left items
collecting-init P left items p e = record { found = []; collected = p; all = e }

-- one more
pub collecting-step : (P Q : List ℕ → Type 0) (before after items : List ℕ) (x : ℕ)
    → ((xs : List ℕ) → P xs → Q (xs ++ x ∷ [])) → before ≡ x ∷ after → Collecting P before items
    → Collecting Q after items
collecting-step P Q before after items x more e c = record {
  found = c.found ++ x ∷ [];
  collected = more c.found c.collected;
  all = append_assoc c.found (x ∷ []) after ∙ ap (λ l. c.found ++ l) (sym e) ∙ c.all;
}

-- there is room for one more
pub collecting-room : (P : List ℕ → Type 0) (before after items : List ℕ) (x : ℕ) → before ≡ x ∷ after
    → length items < 2 ^ 32 → Collecting P before items → (xs : List ℕ) × P xs × (length xs + 1 < 2 ^ 32)
collecting-room P before after items x e fits c =
    let count : length c.found + length before ≡ length items = sym (length-append c.found before) ∙ ap length c.all in
    let some : length before ≡ length after + 1 = ap length e ∙ omega arith in
    (c.found, c.collected, omega (arith, count, some))

-- nothing is left
pub collecting-done : (P : List ℕ → Type 0) (left items : List ℕ) → left ≡ [] → Collecting P left items → P items
collecting-done P left items e c = subst P (sym (append-nil c.found) ∙ ap (λ l. c.found ++ l) (sym e) ∙ c.all) c.collected

-- a collector, with the count of what it has collected
pub record IsCollected (collector : Collected) (count : ℕ) (xs : List ℕ) : Type 0 where
  pub is : collector ≡ collected_of xs
  pub count_is : count ≡ length xs

-- what was collected of a list, with its count, takes one item more
pub collected-more : (old new : Collected) (m n x : ℕ)
    → ((xs : List ℕ) → old ≡ collected_of xs → new ≡ collected_of (xs ++ x ∷ [])) → n ≡ m + 1 → (xs : List ℕ)
    → IsCollected old m xs → IsCollected new n (xs ++ x ∷ [])
collected-more old new m n x more e xs c = record {
  is = more xs c.is;
  count_is = let k = length-append xs (x ∷ []) in omega (arith, k, c.count_is, e);
}

-- the collector counts as the count does
pub collected-room : (s : Collected) (count : ℕ) (left items : List ℕ) → count < 2 ^ 32 → ¬ (count ≡ 2 ^ 32 - 1)
    → Collecting (IsCollected s count) left items → s.count + 1 < 2 ^ 32
collected-room s count left items fits below c = omega (arith, collected-count s c.found c.collected.is, c.collected.count_is)

-- each item is at most the greatest
pub fits-below : (xs : List ℕ) (top : ℕ) → (stats_of xs).greatest ≡ top → top < 2 ^ 64 → AreBelow (2 ^ 64) xs
unfolding stats_of
fits-below xs top e fits = all_by (λ x p. omega (arith, p, e)) xs (fold-max 0 xs).1

-- too many items, where one more comes at the last count
pub too-many : (P : List ℕ → Type 0) (before after items : List ℕ) (x count : ℕ)
    → ((xs : List ℕ) → P xs → count ≡ length xs) → before ≡ x ∷ after → count ≡ 2 ^ 32 - 1
    → Collecting P before items → 2 ^ 32 ≤ length items
too-many P before after items x count counted e top c =
    let sum : length c.found + length before ≡ length items = sym (length-append c.found before) ∙ ap length c.all in
    let some : length before ≡ length after + 1 = ap length e ∙ omega arith in
    omega (arith, sum, some, counted c.found c.collected)
