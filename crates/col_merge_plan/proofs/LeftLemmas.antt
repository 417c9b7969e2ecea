-- Segments of a slot that are left, from a place on.
use Rattle.std.proofs.Common.{◌≡◌, ℕ, ◌+◌, ◌≤◌, ◌<◌, ◌==◌, ◌||◌, Bool, true, false, List, [], ◌∷◌, Some, slice_get, refl, sym, ◌∙◌, ap, arith}
use Rattle.std.specs.List.{AllByRecursion, list_any}
use Rattle.std.proofs.lemmas.Bool.{ne_eqb, true≢false}
use Rattle.col_model.specs.Category.{Slot}
use Rattle.col_model.specs.Keys.{FileKeys}
use Rattle.col_merge_plan.specs.Placed.{has_slot, AreSegmentsFrom}

-- a number that is below all isn't among them
not-among : (k : ℕ) (ss : List ℕ) → AllByRecursion (λ s. k < s) ss → list_any (λ s. s == k) ss ≡ false
not-among k [] all = refl
not-among k (s ∷ ss) all = ap (λ b. b || list_any (λ s. s == k) ss) (ne_eqb s k (λ e. omega (arith, all.0))) ∙ not-among k ss all.1

above : (k s : ℕ) (ss : List ℕ) → k < s → AllByRecursion (λ m. s ≤ m) ss → AllByRecursion (λ m. k < m) ss
above k s [] less all = tt
above k s (m ∷ ss) less all = (omega (arith, all.0), above k s ss less all.1)

-- what is among these, and isn't the first, is among those behind it
among-rest : (k s : ℕ) (ss : List ℕ) → s < k → list_any (λ s. s == k) (s ∷ ss) ≡ true → list_any (λ s. s == k) ss ≡ true
among-rest k s ss less h = sym (ap (λ b. b || list_any (λ s. s == k) ss) (ne_eqb s k (λ e. omega (arith, less)))) ∙ h

module _ (from : ℕ) (slot : Slot) (ks : List FileKeys) where
  -- a file that isn't among them lacks the slot
  lacks : (segments : List ℕ) → AreSegmentsFrom from slot ks segments → (k : ℕ) (f : FileKeys) → slice_get ks k ≡ Some f
      → from ≤ k → list_any (λ s. s == k) segments ≡ false → has_slot slot f ≡ false
  lacks segments are k f e past none = by (has_slot slot f) refl
    where
      by : (b : Bool) → has_slot slot f ≡ b → b ≡ false
      by true h = absurd (true≢false (sym (are.each k f e past h) ∙ none))
      by false h = refl

  -- where none is left, all files from the place on lack the slot
  pub none-left : AreSegmentsFrom from slot ks [] → (k : ℕ) (f : FileKeys) → slice_get ks k ≡ Some f → from ≤ k
      → has_slot slot f ≡ false
  none-left are k f e past = lacks [] are k f e past refl

  module _ (s : ℕ) (ss : List ℕ) (are : AreSegmentsFrom from slot ks (s ∷ ss)) where
    -- so do those before the first that is left
    pub none-before : (k : ℕ) (f : FileKeys) → slice_get ks k ≡ Some f → from ≤ k → k < s → has_slot slot f ≡ false
    none-before k f e past less = lacks (s ∷ ss) are k f e past (not-among k (s ∷ ss) (less, above k s ss less are.rise.0))

    -- one that was passed already is left out
    pub left-out : s < from → AreSegmentsFrom from slot ks ss
    left-out before = record {
      rise = are.rise.1;
      within = are.within.1;
      each = λ k f e past h. among-rest k s ss (omega (arith, before, past)) (are.each k f e past h);
    }

    -- the first that is left is passed
    pub left-behind : from ≤ s → AreSegmentsFrom (s + 1) slot ks ss
    left-behind past = record {
      rise = are.rise.1;
      within = are.within.1;
      each = λ k f e next h. among-rest k s ss (omega (arith, next)) (are.each k f e (omega (arith, past, next)) h);
    }
