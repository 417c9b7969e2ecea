-- Turns of the loop that opens the columns of a slot.
use Rattle.std.proofs.Common.{◌≡◌, ℕ, zero, suc, ◌+◌, ◌-◌, ◌≤◌, List, [], ◌∷◌, ◌++◌, length, drop, sum, Option, Some, slice_get, refl, sym, ap, ◌∙◌, subst, arith}
use Rattle.std.specs.List.{AllByRecursion}
use Rattle.std.proofs.lemmas.List.{take_all}
use Rattle.col_dynamic.specs.declared.dynamic_column.DynamicColumn.{DynamicColumn}
use Rattle.col_file.specs.Readers.{SeenReader, IsRead}
use Rattle.col_merge.proofs.ReadingLemmas.{AreLeft}
use Rattle.col_merge.proofs.ShortLemmas.{IsShortSoFar, starts-rise, short-none, short-gap, short-one, short-all}
use Rattle.col_merge.specs.Short.{gap_counts, gap_columns, AddsOpened, IsShortOf}
use Rattle.col_merge_plan.proofs.CountLemmas.{length-counts}
use Rattle.col_merge_plan.proofs.LeftLemmas.{none-before, none-left}
use Rattle.col_merge_plan.specs.Placed.{AreSegmentsFrom}
use Rattle.col_merge_plan.specs.Slots.{counts_read, keys_read}
use Rattle.col_model.specs.Category.{Slot}
use Rattle.col_model.specs.Positions.{start_of}

drop-more : {A : Type 0} (a k : ℕ) (xs : List A) → drop (a + k) xs ≡ drop k (drop a xs)
drop-more zero k xs = let e : 0 + k ≡ k = omega arith in ap (λ n. drop n xs) e
drop-more (suc a) zero [] = let e : suc a + 0 ≡ suc a = omega arith in ap (λ n. drop n []) e
drop-more (suc a) (suc k) [] = let e : suc a + suc k ≡ suc (a + suc k) = omega arith in ap (λ n. drop n []) e
drop-more (suc a) k (x ∷ xs) =
    let e : suc a + k ≡ suc (a + k) = omega arith in ap (λ n. drop n (x ∷ xs)) e ∙ drop-more a k xs

-- readers that are left from a place on are left from a later one on
pub left-later : (rs ss : List SeenReader) (a b : ℕ) → a ≤ b → AreLeft a rs ss → AreLeft b rs ss
left-later rs ss a b past h =
    let e : b ≡ a + (b - a) = omega (arith, past) in
    subst (λ n. AreLeft n rs ss) (sym e) (drop-more a (b - a) ss ∙ ap (drop (b - a)) h ∙ sym (drop-more a (b - a) rs))

-- a later segment starts no earlier
pub start-later : (counts : List ℕ) (a b : ℕ) → a ≤ b → start_of counts a ≤ start_of counts b
start-later counts a b past =
    let e : a + (b - a) ≡ b = omega (arith, past) in
    subst (λ n. start_of counts a ≤ start_of counts n) e (starts-rise counts a (b - a))

-- behind the last segment all rows end
pub start-last : (counts : List ℕ) (n : ℕ) → length counts ≤ n → start_of counts n ≡ sum counts
start-last counts n past = ap sum (take_all n counts past)

-- none is left behind the last
pub drop-past : (xs : List ℕ) (i : ℕ) → length xs ≤ i → drop i xs ≡ []
drop-past [] zero h = refl
drop-past [] (suc i) h = refl
drop-past (x ∷ xs) zero h = absurd (omega arith)
drop-past (x ∷ xs) (suc i) h = drop-past xs i (omega (arith, h))

-- before the first turn there is nothing
pub turns-start : (slot : Slot) (rs : List SeenReader) (counts : List ℕ) (columns : List (Option DynamicColumn))
    → counts ≡ [] → columns ≡ [] → IsShortSoFar slot rs 0 counts columns
turns-start slot rs counts columns c o =
    subst (λ cs. IsShortSoFar slot rs 0 cs columns) (sym c) (subst (λ os. IsShortSoFar slot rs 0 [] os) (sym o) (short-none slot rs))

module _ (slot : Slot) (rs : List SeenReader) (read : AllByRecursion IsRead rs) (order : List ℕ)
    (same : counts_read rs ≡ order) (next : ℕ) (counts : List ℕ) (columns : List (Option DynamicColumn))
    (was : IsShortSoFar slot rs next counts columns) where
  -- rows up to a later segment are those before the earlier one and between both
  gap-is : (s gap : ℕ) → next ≤ s → gap ≡ start_of order s - start_of order next
      → start_of (counts_read rs) (next + (s - next)) ≡ start_of (counts_read rs) next + gap
  gap-is s gap past is =
      let e : next + (s - next) ≡ s = omega (arith, past) in
      let rise = start-later order next s past in
      ap (λ n. start_of (counts_read rs) n) e
      ∙ ap (λ ns. start_of ns s) same
      ∙ omega (arith, is, rise)
      ∙ ap (λ ns. start_of ns next + gap) (sym same)

  -- the column of the next segment that has one was opened
  pub turn-opened :
      (s : ℕ) (rest : List ℕ) → AreSegmentsFrom next slot (keys_read rs) (s ∷ rest) → next ≤ s → (gap : ℕ)
      → gap ≡ start_of order s - start_of order next → (r : SeenReader) → slice_get rs s ≡ Some r
      → (counts' : List ℕ) (columns' : List (Option DynamicColumn))
      → AddsOpened slot r gap counts counts' columns columns' → IsShortSoFar slot rs (s + 1) counts' columns'
  turn-opened s rest are past gap is r here counts' columns' adds =
      let e : next + (s - next) ≡ s = omega (arith, past) in
      let behind = short-gap slot rs read next counts columns was (s - next) gap (gap-is s gap past is)
      (λ i f g h k. none-before next slot (keys_read rs) s rest are i f g h (omega (arith, k, past))) in
      let at = subst (λ n. IsShortSoFar slot rs n (counts ++ gap_counts gap) (columns ++ gap_columns gap)) e behind in
      let one = short-one slot rs read s (counts ++ gap_counts gap) (columns ++ gap_columns gap) at r adds.column here adds.opened in
      subst (λ cs. IsShortSoFar slot rs (s + 1) cs columns') (sym adds.rows)
      (subst (λ os. IsShortSoFar slot rs (s + 1) ((counts ++ gap_counts gap) ++ r.keys.row_count ∷ []) os) (sym adds.added) one)

  -- no segment is left that has one
  pub turns-end : AreSegmentsFrom next slot (keys_read rs) [] → next ≤ length rs → (gap : ℕ)
      → gap ≡ sum order - start_of order next → (counts' : List ℕ) (columns' : List (Option DynamicColumn))
      → counts' ≡ counts ++ gap_counts gap → columns' ≡ columns ++ gap_columns gap → IsShortOf slot rs counts' columns'
  turns-end are past gap is counts' columns' rows added =
      let n = length rs in
      let e : next + (n - next) ≡ n = omega (arith, past) in
      let long : length order ≡ n = ap length (sym same) ∙ length-counts rs in
      let last : start_of order n ≡ sum order = start-last order n (omega (arith, long)) in
      let gap_is : gap ≡ start_of order n - start_of order next = omega (arith, is, last) in
      let behind = short-gap slot rs read next counts columns was (n - next) gap (gap-is n gap past gap_is)
      (λ i f g h k. none-left next slot (keys_read rs) are i f g h) in
      subst (λ cs. IsShortOf slot rs cs columns') (sym rows)
      (subst (λ os. IsShortOf slot rs (counts ++ gap_counts gap) os) (sym added)
      (short-all slot rs (next + (n - next)) (counts ++ gap_counts gap) (columns ++ gap_columns gap) e read behind))
