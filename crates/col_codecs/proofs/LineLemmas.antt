-- Lines: their values, their bytes, and their training in one pass.
use Rattle.std.proofs.Common.{◌≡◌, ◌≢◌, ℕ, ◌+◌, ◌-◌, ◌%◌, ◌^◌, ◌<◌, inl, inr, min, List, [], ◌∷◌, ◌++◌, map, fold, length, drop, get_or, slice_get, Some, refl, sym, ap, ◌∙◌, arith, append_assoc, w32, w64, ℤ, to_z, of_z}
use Rattle.std.specs.List.{enumerate_from}
use Rattle.std.proofs.lemmas.Int.{of_z-to_z}
use Rattle.std.proofs.lemmas.Option.{get_or_from_slice_get}
use Rattle.std.proofs.lemmas.Bool.{cases_lt, lt-ltb, le-ltb, eq-eqb, ne_eqb}
use Rattle.col_common.specs.VInt.{vint_bytes}
use Rattle.col_common.proofs.VIntLemmas.{vint-vint_bytes}
use Rattle.col_model.specs.Line.{signed_32, line, line_at}
use Rattle.col_model.specs.Stats.{least_of}
use Rattle.col_model.specs.Training.{less_wrapped, heights, trained_slope, trained_line, line_of}
use Rattle.col_model.proofs.StatsLaws.{map-map}
use Rattle.col_model.proofs.TrainingLaws.{less_wrapped-below}
use Rattle.col_values.proofs.HitLemmas.{front_value}
use Rattle.col_codecs.specs.Line.{distance, distances}

-- ---- values

-- the upper half of a product, as a signed number
extended : (h : ℕ) → h < 2 ^ 32 → (of_z w64 (to_z w32 h) ≡ signed_32 h) × (signed_32 h < 2 ^ 64)
extended h p =
    elim (cases_lt h (2 ^ 31)) [
      | inl q ↦ rw (lt-ltb h (2 ^ 31) q) (refl, omega arith)
      | inr q ↦ rw (le-ltb h (2 ^ 31) q) (omega arith, omega arith)
    ]

-- the same by casts
pub extended_by_casts : (h r : ℕ) (a b : ℤ) → h < 2 ^ 32 → a ≡ to_z w32 h → b ≡ to_z w32 (of_z w32 a)
    → r ≡ of_z w64 (to_z w64 (of_z w64 b)) → r ≡ signed_32 h
extended_by_casts h r a b p e f g =
    let k = extended h p in
    let same : b ≡ to_z w32 h = f ∙ ap (λ z. to_z w32 (of_z w32 z)) e ∙ ap (to_z w32) (of_z-to_z w32 h p) in
    let wide : of_z w64 b ≡ signed_32 h = ap (of_z w64) same ∙ k.0 in
    g ∙ ap (λ n. of_z w64 (to_z w64 n)) wide ∙ of_z-to_z w64 (signed_32 h) k.1

-- ---- bytes

-- slope and intercept are read back, whatever follows
pub line_at-bytes : (slope intercept : ℕ) (rest : List ℕ) → slope < 2 ^ 64 → intercept < 2 ^ 64
    → line_at (vint_bytes slope ++ vint_bytes intercept ++ rest) ≡ Some ((slope, intercept), rest)
line_at-bytes slope intercept rest p q =
    rw (append_assoc, vint-vint_bytes slope (vint_bytes intercept ++ rest) p, vint-vint_bytes intercept rest q) refl

-- ---- positions

-- the value at a position, and those behind it
pub enumerated_next : (xs : List ℕ) (i x : ℕ) → slice_get xs i ≡ Some x → i < length xs
    → enumerate_from i (drop i xs) ≡ (i, x) ∷ enumerate_from (i + 1) (drop (i + 1) xs)
enumerated_next xs i x e h = ap (enumerate_from i) (front_value xs i x e h)

-- ---- training

-- the least of numbers below 2 ^ 64, from the greatest of them on
least-from_top : (ds : List ℕ) (slope mark : ℕ) (ps : List (ℕ × ℕ)) → ds ≡ distances slope mark ps → 0 < length ps
    → fold min 0xffff_ffff_ffff_ffff ds ≡ least_of ds
least-from_top ds slope mark [] e p = absurd (omega arith)
least-from_top ds slope mark (q ∷ ps) e p =
    let d = distance slope mark q in
    let same : min 0xffff_ffff_ffff_ffff d ≡ d = omega (arith, less_wrapped-below (less_wrapped q.1 (line slope 0 q.0)) mark) in
    rw e (ap (λ m. fold min m (distances slope mark ps)) same)

-- the line of one number
pub trained_line-one : (first last n slope intercept : ℕ) (items : List (ℕ × ℕ)) → n ≡ 1 → slope ≡ 0 → intercept ≡ 0
    → (slope, intercept) ≡ trained_line first last n items
unfolding trained_line
trained_line-one first last n slope intercept items e s i = rw (eq-eqb n 1 e, s, i) refl

-- what one pass gives is the trained line
pub trained_line-passed : (first last n slope mark least intercept : ℕ) (items : List (ℕ × ℕ)) → n ≢ 1
    → 0 < length items → slope ≡ trained_slope first last (n - 1) → mark ≡ less_wrapped first (2 ^ 32 - 1)
    → least ≡ fold min 0xffff_ffff_ffff_ffff (distances slope mark items) → intercept ≡ (mark + least) % 2 ^ 64
    → (slope, intercept) ≡ trained_line first last n items
unfolding trained_line
trained_line-passed first last n slope mark least intercept items several some s m l i =
    let joined = map-map (λ (p : ℕ × ℕ). less_wrapped p.1 (line slope 0 p.0)) (λ h. less_wrapped h mark) items in
    let lowest : least ≡ least_of (map (λ h. less_wrapped h mark) (heights slope items)) =
    l ∙ least-from_top (distances slope mark items) slope mark items refl some ∙ ap least_of (sym joined) in
    rw (ne_eqb n 1 several, ← s, ← m, i, lowest) refl

-- the line of a list, by its first and its last number
pub line_of-parts : (xs : List ℕ) (n first last : ℕ) → n ≡ length xs → slice_get xs 0 ≡ Some first
    → slice_get xs (n - 1) ≡ Some last → trained_line first last n (enumerate_from 0 xs) ≡ line_of xs
line_of-parts xs n first last e f g =
    let front : first ≡ get_or xs 0 0 = sym (get_or_from_slice_get xs 0 first 0 f) in
    let back : last ≡ get_or xs (n - 1) 0 = sym (get_or_from_slice_get xs (n - 1) last 0 g) in
    rw (front, back, e) refl
