-- Items and ids, one after another and in blocks.
use Rattle.std.proofs.Common.{◌≡◌, ℕ, zero, suc, ◌+◌, ◌<◌, Bool, true, false, cond, List, [], ◌∷◌, ◌++◌, length, take, set, sym, refl, ap, ◌∙◌, arith, append_assoc, add-zero, zero-add}
use Rattle.std.specs.List.{range_with_len, filter}
use Rattle.std.specs.Int.{is_in_range}
use Rattle.std.proofs.lemmas.Bool.Decides.{nat_tests}
use Rattle.std.proofs.lemmas.List.{take_more_set}
use Rattle.std.proofs.lemmas.List.FromFn.{map-range_with_len_more}
use Rattle.std.proofs.lemmas.List.Elements.{filter-append}
use mir.Val.{bool_byte}
use Rattle.col_common.specs.Ascending.{is_rising}
use Rattle.col_common.proofs.OrderingLemmas.{filtered_rises}
use Rattle.col_common.proofs.KeptLemmas.{kept_more}
use Rattle.col_bits.specs.Packed.{item, items, ids_between}

-- one item more is written
pub items_more : (bytes : List ℕ) (w a i x : ℕ) (out : List ℕ) → i < length out → x ≡ item bytes w (a + i)
    → take i out ≡ items bytes w a i → take (i + 1) (set out i x) ≡ items bytes w a (i + 1)
items_more bytes w a i x out within value so_far =
    take_more_set out i x within
    ∙ (ap (λ xs. xs ++ x ∷ []) so_far
    ∙ (ap (λ y. items bytes w a i ++ y ∷ []) value
    ∙ sym (map-range_with_len_more (item bytes w) a i (a + i) refl)))

-- a range in two parts
pub range_parts : (a n m : ℕ) → range_with_len a (n + m) ≡ range_with_len a n ++ range_with_len (a + n) m
range_parts a zero m = ap (range_with_len a) (zero-add m) ∙ ap (λ k. range_with_len k m) (sym (add-zero a))
range_parts a (suc n) m =
    let later : range_with_len (a + 1) (n + m) ≡ range_with_len (a + 1) n ++ range_with_len (a + 1 + n) m = range_parts (a + 1) n m in
    let place : a + 1 + n ≡ a + suc n = omega arith in
    let count : suc n + m ≡ suc (n + m) = omega arith in
    ap (range_with_len a) count
    ∙ ap (λ xs. a ∷ xs) (later ∙ ap (λ k. range_with_len (a + 1) n ++ range_with_len k m) place)

-- no id
pub ids_none : (bytes : List ℕ) (w low high a n : ℕ) → n ≡ 0 → ids_between bytes w low high a n ≡ []
unfolding ids_between
ids_none bytes w low high a n e = ap (ids_between bytes w low high a) e

-- ids of two blocks
pub ids_joined : (bytes : List ℕ) (w low high a n m b k : ℕ) → a + n ≡ b → n + m ≡ k
    → ids_between bytes w low high a k ≡ ids_between bytes w low high a n ++ ids_between bytes w low high b m
unfolding ids_between
ids_joined bytes w low high a n m b k at whole =
    let test : ℕ → Bool = λ id. is_in_range low high (item bytes w id) in
    ap (λ c. filter test (range_with_len a c)) (sym whole)
    ∙ (ap (filter test) (range_parts a n m)
    ∙ (filter-append test (range_with_len a n) (range_with_len (a + n) m)
    ∙ ap (λ c. filter test (range_with_len a n) ++ filter test (range_with_len c m)) at))

-- one id
pub ids_one : (bytes : List ℕ) (w low high id : ℕ) (kept : Bool) → kept ≡ is_in_range low high (item bytes w id)
    → ids_between bytes w low high id 1 ≡ cond kept (id ∷ []) []
unfolding ids_between
ids_one bytes w low high id kept e = ap (λ b. cond b (id ∷ []) []) (sym e)

-- one id more is tested
pub ids_more : (bytes : List ℕ) (w low high a n m id kept v : ℕ) (front out : List ℕ) (b : Bool) → a + n ≡ id
    → n + 1 ≡ m → b ≡ is_in_range low high v → v ≡ item bytes w id → kept < length out
    → take kept out ≡ front ++ ids_between bytes w low high a n
    → take (kept + bool_byte b) (set out kept id) ≡ front ++ ids_between bytes w low high a m
ids_more bytes w low high a n m id kept v front out b at next test value within so_far =
    let tested : b ≡ is_in_range low high (item bytes w id) = test ∙ ap (is_in_range low high) value in
    let done : List ℕ = ids_between bytes w low high a n in
    kept_more out kept id b within
    ∙ (ap (λ xs. xs ++ cond b (id ∷ []) []) so_far
    ∙ (append_assoc front done (cond b (id ∷ []) [])
    ∙ (ap (λ xs. front ++ (done ++ xs)) (sym (ids_one bytes w low high id b tested))
    ∙ ap (λ xs. front ++ xs) (sym (ids_joined bytes w low high a n 1 id m at next)))))

-- ids rise
pub ids_rise : (bytes : List ℕ) (w low high a n : ℕ) → is_rising (ids_between bytes w low high a n) ≡ true
unfolding ids_between
ids_rise bytes w low high a n = filtered_rises (λ id. is_in_range low high (item bytes w id)) a n

-- one item more
pub items-push : (bytes : List ℕ) (w n : ℕ) → items bytes w 0 (n + 1) ≡ items bytes w 0 n ++ item bytes w n ∷ []
items-push bytes w n = map-range_with_len_more (item bytes w) 0 n n (omega arith)

-- ---- a range that ends before it begins

misses : (low high v : ℕ) → high < low → is_in_range low high v ≡ false
misses low high v h = grind (arith, nat_tests)

-- no id has an item in a range that is empty
pub ids_outside : (bytes : List ℕ) (w low high a n : ℕ) → high < low → ids_between bytes w low high a n ≡ []
unfolding ids_between
ids_outside bytes w low high a zero h = refl
ids_outside bytes w low high a (suc n) h =
    let later : List ℕ = ids_between bytes w low high (a + 1) n in
    ap (λ b. cond b (a ∷ later) later) (misses low high (item bytes w a) h) ∙ ids_outside bytes w low high (a + 1) n h
