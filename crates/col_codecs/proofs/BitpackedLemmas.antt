-- Items of a list under Bitpacked, by arithmetic.
use Rattle.std.proofs.Common.{◌≡◌, ℕ, zero, suc, ◌+◌, ◌*◌, ◌/◌, ◌^◌, ◌<◌, ◌≤◌, Bool, true, false, List, [], ◌∷◌, length, map, take, drop, slice_index, slice_get, Option, Some, None, refl, sym, ◌∙◌, ap, arith}
use Rattle.std.specs.List.{range_with_len, AllByRecursion}
use Rattle.std.proofs.lemmas.Option.{slice_get-get_or}
use Rattle.std.proofs.lemmas.List.FromFn.{length-map-range_with_len, get_or-map-range_with_len}
use Rattle.std.proofs.lemmas.List.Elements.{All-get_or, All-from_recursion}
use native.Mathlib.Nat.{mod-one}
use Rattle.col_common.specs.Ascending.{AreBelow}
use Rattle.col_common.specs.Reading.{◌>>=◌, only_if}
use Rattle.col_bits.specs.Packed.{number_of, item, items, width, is_packed}
use Rattle.col_model.specs.Stats.{Stats, stats_of, steps_of, same_stats, greatest_of}
use Rattle.col_model.specs.U64List.{bitpacked_values}
use Rattle.col_model.proofs.StatsLaws.{map-map, fold-max}
use Rattle.col_model.proofs.ItemLaws.{packed-items, only_if-then}
use Rattle.col_model.proofs.OneFormLaws.{same_stats-equal}
use Rattle.col_codecs.specs.Header.{checked, list_by}
use Rattle.col_codecs.specs.ColumnStats.{IsPossible}
use Rattle.col_codecs.specs.Bitpacked.{bitpacked_item, bitpacked_items, IsReader}
use Rattle.col_codecs.proofs.BoundsLemmas.{stats_of-greatest}
use Rattle.col_codecs.proofs.ListLemmas.{range-part}
use Rattle.col_codecs.proofs.StepsLemmas.{steps_stats, same_stats-stepped, same_stats-level}

-- ---- the list's items

-- there are as many items as the statistics count
pub length-bitpacked_items : (s : Stats) (bytes : List ℕ) → length (bitpacked_items s bytes) ≡ s.count
unfolding bitpacked_items
length-bitpacked_items s bytes = length-map-range_with_len (bitpacked_item s bytes) 0 s.count

pub bitpacked_items-at : (s : Stats) (bytes : List ℕ) (i : ℕ) → i < s.count
    → slice_index (bitpacked_items s bytes) i ≡ bitpacked_item s bytes i
unfolding bitpacked_items
bitpacked_items-at s bytes i h = get_or-map-range_with_len (bitpacked_item s bytes) 0 s.count i i 0 h (omega arith)

-- they are those of the packed steps
bitpacked_items-stepped : (s : Stats) (bytes : List ℕ)
    → bitpacked_items s bytes ≡ map (λ k. s.least + s.divisor * k) (items bytes (width (steps_of s)) 0 s.count)
unfolding bitpacked_items
bitpacked_items-stepped s bytes = sym (map-map (item bytes (width (steps_of s))) (λ k. s.least + s.divisor * k) (range_with_len 0 s.count))

-- ---- their statistics

-- told by those of the steps
pub same_stats-items : (s : Stats) (bytes : List ℕ) (w : ℕ) → IsPossible s → w ≡ width (steps_of s)
    → same_stats (stats_of (items bytes w 0 s.count)) (steps_stats s)
    ≡ same_stats (stats_of (bitpacked_items s bytes)) s
same_stats-items s bytes w h e =
    let ks = items bytes (width (steps_of s)) 0 s.count in
    ap (λ v. same_stats (stats_of (items bytes v 0 s.count)) (steps_stats s)) e
    ∙ sym (same_stats-stepped s ks h (length-map-range_with_len (item bytes (width (steps_of s))) 0 s.count))
    ∙ ap (λ xs. same_stats (stats_of xs) s) (sym (bitpacked_items-stepped s bytes))

-- items of no bits
items-no_bits : (bytes : List ℕ) (a n : ℕ) → AllByRecursion (λ k. k ≡ 0) (items bytes 0 a n)
items-no_bits bytes a zero = tt
items-no_bits bytes a (suc n) = (mod-one (number_of 256 bytes / 2 ^ (a * 0)), items-no_bits bytes (a + 1) n)

-- statistics whose bounds are equal are those of the items that they stand for
pub same_stats-no_steps : (s : Stats) (bytes : List ℕ) → IsPossible s → steps_of s ≡ 0
    → true ≡ same_stats (stats_of (bitpacked_items s bytes)) s
same_stats-no_steps s bytes h none =
    let narrow : 0 ≡ width (steps_of s) = sym (ap width none) in
    sym (same_stats-level s (items bytes 0 0 s.count) (length-map-range_with_len (item bytes 0) 0 s.count) none
    (items-no_bits bytes 0 s.count))
    ∙ same_stats-items s bytes 0 h narrow

-- ---- the list behind statistics

abbrev bits_of : Stats → ℕ
bits_of s = s.count * width (steps_of s)

tested : (s : Stats) (bytes : List ℕ)
    → list_by 0 s bytes ≡ (only_if (is_packed bytes (bits_of s)) (bitpacked_items s bytes) >>=
    λ xs. only_if (same_stats (stats_of xs) s) xs)
unfolding list_by bitpacked_values
tested s bytes =
    let w = width (steps_of s) in
    let exact : List ℕ → Option (List ℕ) = λ xs. only_if (same_stats (stats_of xs) s) xs in
    let f : ℕ → ℕ = λ k. s.least + s.divisor * k in
    ap (λ o. (o >>= λ ks. Some (map f ks)) >>= exact) (packed-items bytes w s.count)
    ∙ ap (λ o. o >>= exact) (only_if-then (map f) (is_packed bytes (bits_of s)) (items bytes w 0 s.count))
    ∙ ap (λ xs. only_if (is_packed bytes (bits_of s)) xs >>= exact) (sym (bitpacked_items-stepped s bytes))

-- other bytes than those that the items take
pub list_by-other : (s : Stats) (bytes : List ℕ) → is_packed bytes (bits_of s) ≡ false → list_by 0 s bytes ≡ None
list_by-other s bytes e = tested s bytes ∙ ap (λ b. only_if b (bitpacked_items s bytes) >>= λ xs. only_if (same_stats (stats_of xs) s) xs) e

-- their items, where the statistics are theirs
pub list_by-packed : (s : Stats) (bytes : List ℕ) → is_packed bytes (bits_of s) ≡ true
    → list_by 0 s bytes ≡ checked s (bitpacked_items s bytes)
list_by-packed s bytes e =
    tested s bytes
    ∙ ap (λ b. only_if b (bitpacked_items s bytes) >>= λ xs. only_if (same_stats (stats_of xs) s) xs) e

-- a list whose statistics were tested
pub checked-by : (s : Stats) (xs : List ℕ) (exact : Bool) → same_stats (stats_of xs) s ≡ exact → checked s xs ≡ only_if exact xs
checked-by s xs exact e = ap (λ b. only_if b xs) e

-- a list by the statistics of its steps
pub checked-steps : (s found : Stats) (bytes : List ℕ) (w steps : ℕ) (test exact : Bool) → IsPossible s
    → w ≡ width (steps_of s) → steps ≡ steps_of s → found ≡ stats_of (items bytes w 0 s.count)
    → let top : Stats = record { least = 0; greatest = steps; divisor = 1; count = s.count } in test ≡ same_stats
    found top → test ≡ exact → checked s (bitpacked_items s bytes) ≡ only_if exact (bitpacked_items s bytes)
checked-steps s found bytes w steps test exact possible wide e stats told is =
    let top : ℕ → Stats = λ n. record { least = 0; greatest = n; divisor = 1; count = s.count } in
    checked-by s (bitpacked_items s bytes) exact
    (sym (told
    ∙ ap (λ t. same_stats t (top steps)) stats
    ∙ ap (λ n. same_stats (stats_of (items bytes w 0 s.count)) (top n)) e
    ∙ same_stats-items s bytes w possible wide)
    ∙ is)

-- no item lies above the greatest
item-within : (s : Stats) (bytes : List ℕ) (i : ℕ) → i < s.count → bitpacked_item s bytes i ≤ greatest_of (bitpacked_items s bytes)
item-within s bytes i h =
    let xs = bitpacked_items s bytes in
    let bound : slice_index xs i ≤ greatest_of xs =
    All-get_or (λ x. x ≤ greatest_of xs) xs i 0 (rw (length-bitpacked_items s bytes) h)
    (All-from_recursion (λ x. x ≤ greatest_of xs) xs (fold-max 0 xs).1) in
    omega (arith, bound, bitpacked_items-at s bytes i h)

-- a reader of items with these statistics
pub IsReader-same : (s : Stats) (bytes : List ℕ) (w : ℕ) → IsPossible s → w ≡ width (steps_of s)
    → s.greatest < 2 ^ 64 → same_stats (stats_of (bitpacked_items s bytes)) s ≡ true → IsReader s w bytes
IsReader-same s bytes w possible e fits same =
    let exact = same_stats-equal (stats_of (bitpacked_items s bytes)) s same in
    let top : greatest_of (bitpacked_items s bytes) ≡ s.greatest =
    sym (stats_of-greatest (bitpacked_items s bytes)) ∙ ap (λ t. t.greatest) exact in
    record {
      width_is = e;
      positive = possible.positive;
      fits = λ i h. omega (arith, item-within s bytes i h, top, fits);
      exact = exact;
    }

-- ---- for a reader

-- the value of a step that was read
pub reads-at : (s : Stats) (bytes read list : List ℕ) (w i step : ℕ) → bitpacked_items s bytes ≡ list
    → IsReader s w bytes → read ≡ bytes → step ≡ item read w i → i < length list
    → (s.least + s.divisor * step < 2 ^ 64) × (slice_get list i ≡ Some (s.least + s.divisor * step))
reads-at s bytes read list w i step e reader same is h =
    let within : i < s.count = rw (← e, length-bitpacked_items s bytes) at h in
    let value : bitpacked_item s bytes i ≡ s.least + s.divisor * step =
    ap (λ v. s.least + s.divisor * item bytes v i) (sym reader.width_is) ∙ ap (λ b. s.least + s.divisor * item b w i)
    (sym same) ∙ ap (λ k. s.least + s.divisor * k) (sym is) in (
      rw (← value) (reader.fits i within),
      slice_get-get_or list i 0 h ∙ ap (λ xs. Some (slice_index xs i)) (sym e) ∙ ap Some (bitpacked_items-at s bytes i within ∙ value),
    )

-- the values of steps that were read fit
pub part-fits : (s : Stats) (bytes read : List ℕ) (w start m : ℕ) → IsReader s w bytes → read ≡ bytes
    → start + m ≤ s.count → AllByRecursion (λ k. s.least + s.divisor * k < 2 ^ 64) (items read w start m)
part-fits s bytes read w start zero reader same h = tt
part-fits s bytes read w start (suc m) reader same h =
    let value : bitpacked_item s bytes start ≡ s.least + s.divisor * item read w start =
    ap (λ v. s.least + s.divisor * item bytes v start) (sym reader.width_is) ∙ ap (λ b. s.least + s.divisor * item b w start) (sym same) in
    (rw (← value) (reader.fits start (omega arith)), part-fits s bytes read w (start + 1) m reader same (omega arith))

-- they are a part of the list
pub part-read : (s : Stats) (bytes read list : List ℕ) (w start m : ℕ) → bitpacked_items s bytes ≡ list
    → IsReader s w bytes → read ≡ bytes → start + m ≤ s.count
    → map (λ k. s.least + s.divisor * k) (items read w start m) ≡ take m (drop start list)
unfolding bitpacked_items
part-read s bytes read list w start m e reader same h =
    map-map (item read w) (λ k. s.least + s.divisor * k) (range_with_len start m)
    ∙ ap (λ b. map (λ i. s.least + s.divisor * item b w i) (range_with_len start m)) same
    ∙ ap (λ v. map (λ i. s.least + s.divisor * item bytes v i) (range_with_len start m)) reader.width_is
    ∙ range-part (bitpacked_item s bytes) s.count start m h
    ∙ ap (λ xs. take m (drop start xs)) e

-- the values of steps at positions fit, and are those of the list
pub at-read : (s : Stats) (bytes read list : List ℕ) (w : ℕ) (at : List ℕ) → bitpacked_items s bytes ≡ list
    → IsReader s w bytes → read ≡ bytes → AreBelow (length list) at
    → AllByRecursion (λ i. s.least + s.divisor * item read w i < 2 ^ 64) at
    × (map (λ i. Some (s.least + s.divisor * item read w i)) at ≡ map (slice_get list) at)
at-read s bytes read list w [] e reader same all = (tt, refl)
at-read s bytes read list w (i ∷ at) e reader same all =
    let here = reads-at s bytes read list w i (item read w i) e reader same refl all.0 in
    let later = at-read s bytes read list w at e reader same all.1 in
    ((here.0, later.0), λ j. sym here.1 j ∷ later.1 j)
