-- Rows and offsets that builders record, one more at a time.
use Rattle.std.proofs.Common.{◌≡◌, ℕ, suc, ◌+◌, ◌-◌, ◌<◌, ◌^◌, ◌==◌, nat_lt, nat_eq, true, false, List, [], ◌∷◌, ◌++◌, length, get_or, set, refl, sym, ap, ◌∙◌, arith, subst, length-append, length-set}
use Rattle.std.specs.List.{sum, list_all, starts_with}
use Rattle.std.proofs.lemmas.Bool.{lt-ltb, eqb-true, and_parts, and_from, true≢false}
use Rattle.std.proofs.lemmas.Grind.{get_or_default_zero}
use Rattle.col_common.specs.Ascending.{is_rising, is_never_falling, differences}
use Rattle.col_model.specs.Index.{are_offsets}
use Rattle.col_indexer.specs.Builders.{RecordedRows, IsAfter, IsRecording, with_value}
use Rattle.col_indexer.proofs.RecordedLists.{all-push, rising-push, last_of, never_falling-again, differences-again, all-last, never_falling-raised, differences-raised, all-raised, last-sum, first_is_zero}

-- ---- what builders hold

-- a row more, which has no value yet
with_row : (rows : List ℕ) (row x : ℕ) (xs : List ℕ) → is_rising rows ≡ true → IsAfter rows row
    → length (x ∷ xs) ≡ length rows + 1 → are_offsets (x ∷ xs) ≡ true → is_never_falling (x ∷ xs) ≡ true
    → IsRecording (rows ++ row ∷ []) ((x ∷ xs) ++ last_of x xs ∷ [])
with_row rows row x xs rise after many offsets fall =
    let parts = and_parts (starts_with nat_eq (x ∷ xs) (0 ∷ [])) (list_all (λ s. nat_lt s (2 ^ 32)) (x ∷ xs)) offsets in
    record {
      rise = rising-push rows row rise after;
      many = λ h. omega (arith, length-append xs (last_of x xs ∷ []), length-append rows (row ∷ []));
      none = λ e. absurd (omega arith);
      offsets_are =
          λ h. and_from (starts_with nat_eq (x ∷ (xs ++ last_of x xs ∷ [])) (0 ∷ []))
          (list_all (λ s. nat_lt s (2 ^ 32)) (x ∷ (xs ++ last_of x xs ∷ []))) parts.0
          (all-push (λ s. nat_lt s (2 ^ 32)) (x ∷ xs) (last_of x xs) parts.1 (all-last (λ s. nat_lt s (2 ^ 32)) x xs parts.1));
      never_fall = never_falling-again x xs fall;
    }

-- the offsets, of which the first is there
abbrev pub begun : List ℕ → List ℕ
begun [] = 0 ∷ []
begun (x ∷ xs) = x ∷ xs

-- a row after all that are recorded is recorded with its start, and has no value yet
pub row-recorded : (rows offsets base : List ℕ) (row start : ℕ) → IsRecording rows offsets → base ≡ begun offsets
    → IsAfter rows row → start ≡ get_or base (length base - 1) 0
    → IsRecording (rows ++ row ∷ []) (base ++ start ∷ [])
    × (differences (base ++ start ∷ []) ≡ differences offsets ++ 0 ∷ [])
row-recorded rows [] base row start r b after s =
    let last : start ≡ last_of 0 [] = s ∙ ap (λ xs. get_or xs (length xs - 1) 0) b in
    let same : base ++ start ∷ [] ≡ 0 ∷ 0 ∷ [] = ap (λ xs. xs ++ start ∷ []) b ∙ ap (λ v. 0 ∷ v ∷ []) last in
    let rows_none = r.none refl in
    let later = subst (λ rs. IsRecording (rs ++ row ∷ []) (0 ∷ 0 ∷ [])) (sym rows_none) (with_row [] row 0 [] refl refl refl refl refl) in
    (subst (IsRecording (rows ++ row ∷ [])) (sym same) later, ap differences same ∙ differences-again 0 [])
row-recorded rows (x ∷ xs) base row start r b after s =
    let place : length (x ∷ xs) - 1 ≡ length xs = omega arith in
    let last : start ≡ last_of x xs = s ∙ ap (λ ys. get_or ys (length ys - 1) 0) b ∙ ap (λ k. get_or (x ∷ xs) k 0) place in
    let same : base ++ start ∷ [] ≡ (x ∷ xs) ++ last_of x xs ∷ [] = ap (λ ys. ys ++ start ∷ []) b ∙ ap (λ v. (x ∷ xs) ++ v ∷ []) last in
    let positive : 0 < length (x ∷ xs) = omega arith in
    let later = with_row rows row x xs r.rise after (r.many positive) (r.offsets_are positive) r.never_fall in
    (subst (IsRecording (rows ++ row ∷ [])) (sym same) later, ap differences same ∙ differences-again x xs)

-- a value more
pub record IsValueRecorded (rows offsets changed : List ℕ) : Type 0 where
  pub recording : IsRecording rows changed
  pub counts : differences changed ≡ with_value (differences offsets)

last_fits : (x : ℕ) (xs : List ℕ) → are_offsets (x ∷ xs) ≡ true → is_never_falling (x ∷ xs) ≡ true
    → sum (differences (x ∷ xs)) < 2 ^ 32 - 1 → last_of x xs + 1 < 2 ^ 32
last_fits x xs offsets fall few = omega (arith, last-sum x xs fall, first_is_zero x xs offsets)

-- with fewer than 2 ^ 32 - 1 values recorded the last offset can be raised by one within 32 bits
pub value-fits : (rows offsets : List ℕ) (i : ℕ) → IsRecording rows offsets → 0 < length rows
    → i ≡ length offsets - 1 → sum (differences offsets) < 2 ^ 32 - 1 → get_or offsets i 0 + 1 < 2 ^ 32
value-fits rows [] i r some e few = omega arith
value-fits rows (x ∷ xs) i r some e few =
    let positive : 0 < length (x ∷ xs) = omega arith in
    let place : i ≡ length xs = omega arith in
    subst (λ k. get_or (x ∷ xs) k 0 + 1 < 2 ^ 32) (sym place) (last_fits x xs (r.offsets_are positive) r.never_fall few)

-- raising the last offset by one records a value of the last row
pub value-recorded : (rows offsets : List ℕ) (i v : ℕ) → IsRecording rows offsets → 0 < length rows
    → i ≡ length offsets - 1 → v ≡ get_or offsets i 0 → sum (differences offsets) < 2 ^ 32 - 1
    → IsValueRecorded rows offsets (set offsets i (v + 1))
value-recorded rows [] i v r some e q few = absurd (omega (arith, ap length (r.none refl)))
value-recorded rows (x ∷ []) i v r some e q few = let many = r.many (omega arith) in absurd (omega arith)
value-recorded rows (x ∷ y ∷ ys) i v r some e q few =
    let positive : 0 < length (x ∷ y ∷ ys) = omega arith in
    let place : i ≡ suc (length ys) = omega arith in
    let offsets = r.offsets_are positive in
    let parts = and_parts (starts_with nat_eq (x ∷ y ∷ ys) (0 ∷ [])) (list_all (λ s. nat_lt s (2 ^ 32)) (x ∷ y ∷ ys)) offsets in
    let each = and_parts (nat_lt x (2 ^ 32)) (list_all (λ s. nat_lt s (2 ^ 32)) (y ∷ ys)) parts.1 in
    let raised = set (y ∷ ys) (length ys) (last_of y ys + 1) in
    let same : set (x ∷ y ∷ ys) i (v + 1) ≡ x ∷ raised =
    ap (λ k. set (x ∷ y ∷ ys) k (v + 1)) place
    ∙ ap (λ w. x ∷ set (y ∷ ys) (length ys) (w + 1)) (q ∙ ap (λ k. get_or (x ∷ y ∷ ys) k 0) place) in
    let many = r.many positive in
    let later : IsRecording rows (x ∷ raised) = record {
      rise = r.rise;
      many = λ h. omega (arith, length-set (y ∷ ys) (length ys) (last_of y ys + 1));
      none = λ n. absurd (omega arith);
      offsets_are = λ h. and_from (starts_with nat_eq (x ∷ raised) (0 ∷ [])) (list_all (λ s. nat_lt s (2 ^ 32)) (x ∷ raised)) parts.0
          (and_from (nat_lt x (2 ^ 32)) (list_all (λ s. nat_lt s (2 ^ 32)) raised) each.0
          (all-raised (λ s. nat_lt s (2 ^ 32)) y ys (last_of y ys + 1) each.1
          (lt-ltb _ _ (last_fits x (y ∷ ys) offsets r.never_fall few))));
      never_fall = never_falling-raised x y ys r.never_fall;
    } in
    record {
      recording = subst (IsRecording rows) (sym same) later;
      counts = ap differences same ∙ differences-raised x y ys r.never_fall;
    }

-- ---- what a read of an item says, where its default is the item itself

-- an offset read at the last place is the last offset
pub last-read : (rows offsets : List ℕ) (i v : ℕ) → IsRecording rows offsets → 0 < length rows
    → i ≡ length offsets - 1 → v ≡ get_or offsets i v → v ≡ get_or offsets i 0
last-read rows [] i v r some e q = absurd (omega (arith, ap length (r.none refl)))
last-read rows (x ∷ xs) i v r some e q = q ∙ get_or_default_zero (x ∷ xs) i v (omega arith)

-- ---- the first offset, which is put where none is there

-- a 0 put to no offsets begins them
pub begun-empty : (offsets kept base : List ℕ) → kept ≡ offsets → true ≡ (length kept == 0) → base ≡ kept ++ 0 ∷ [] → base ≡ begun offsets
begun-empty [] kept base k e b = b ∙ ap (λ xs. xs ++ 0 ∷ []) k
begun-empty (x ∷ xs) kept base k e b = absurd (omega (arith, ap length k, eqb-true (length kept) 0 (sym e)))

-- offsets that are there have begun
pub begun-some : (offsets kept base : List ℕ) → kept ≡ offsets → false ≡ (length kept == 0) → base ≡ kept → base ≡ begun offsets
begun-some [] kept base k e b = absurd (true≢false (sym (e ∙ ap (λ xs. length xs == 0) k)))
begun-some (x ∷ xs) kept base k e b = b ∙ k

-- what a builder shows, and what it shows of a row more
abbrev pub shown_of : List ℕ → List ℕ → RecordedRows
shown_of rows offsets = record { rows = rows; counts = differences offsets }

-- a value may be recorded: a row is there, and few values are
pub record HasRoom (rows offsets : List ℕ) : Type 0 where
  pub some : 0 < length rows
  pub few : sum (differences offsets) < 2 ^ 32 - 1

-- what is shown tells it
pub room-shown : (rows offsets : List ℕ) (shown : RecordedRows) → shown_of rows offsets ≡ shown → 0 < length shown.rows
    → sum shown.counts < 2 ^ 32 - 1 → HasRoom rows offsets
room-shown rows offsets shown e some few = record {
  some = subst (λ (r : RecordedRows). 0 < length r.rows) (sym e) some;
  few = subst (λ (r : RecordedRows). sum r.counts < 2 ^ 32 - 1) (sym e) few;
}

-- the same with one row more, which has no value
abbrev pub more_shown : RecordedRows → ℕ → RecordedRows
more_shown r row = record { rows = r.rows ++ row ∷ []; counts = r.counts ++ 0 ∷ [] }

-- one row more is shown as that row with no value
pub row-shown : (rows offsets rows' offsets' : List ℕ) (row : ℕ) (shown : RecordedRows) → rows' ≡ rows ++ row ∷ []
    → differences offsets' ≡ differences offsets ++ 0 ∷ [] → shown_of rows offsets ≡ shown
    → shown_of rows' offsets' ≡ more_shown shown row
row-shown rows offsets rows' offsets' row shown e d v =
    let first : shown_of rows' offsets' ≡ shown_of (rows ++ row ∷ []) offsets' = ap (λ rs. shown_of rs offsets') e in
    let second : shown_of (rows ++ row ∷ []) offsets' ≡ more_shown (shown_of rows offsets) row =
    λ i. record { rows = rows ++ row ∷ []; counts = d i } in
    first ∙ second ∙ ap (λ r. more_shown r row) v

-- the last of the offsets as a read gives it, whose default is the item itself
pub begun-read : (offsets base : List ℕ) (i start : ℕ) → base ≡ begun offsets → i ≡ length base - 1
    → start ≡ get_or base i start → start ≡ get_or base (length base - 1) 0
begun-read offsets base i start b e q =
    let within : i < length base = by_case offsets b in
    q ∙ get_or_default_zero base i start within ∙ ap (λ k. get_or base k 0) e
  where
    by_case : (os : List ℕ) → base ≡ begun os → i < length base
    by_case [] b = omega (arith, ap length b)
    by_case (x ∷ xs) b = omega (arith, ap length b)
