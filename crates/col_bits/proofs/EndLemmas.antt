-- Ends of a range, brought to what is compared.
use Rattle.std.proofs.Common.{◌≡◌, ℕ, zero, suc, ◌+◌, ◌-◌, ◌*◌, ◌/◌, ◌^◌, ◌<◌, ◌≤◌, false, cond, List, [], ◌∷◌, ◌++◌, refl, sym, ◌∙◌, ap, arith, min, append_assoc}
use Rattle.std.proofs.lemmas.Bool.Decides.{nat_tests}
use Rattle.std.proofs.lemmas.Nat.{mod_below, pow_pos}
use Rattle.std.proofs.lemmas.List.Elements.{filter_agree}
use Rattle.std.specs.Int.{is_in_range}
use Rattle.std.specs.List.{range_with_len}
use Rattle.col_bits.specs.Packed.{number_of, item, ids_between}
use Rattle.col_bits.proofs.ItemLemmas.{ids_joined}
use Rattle.col_bits.proofs.GroupLemmas.{item_fits}

-- an upper end past 32 bits is as good as the greatest number of 32 bits
capped_test : (low high top v : ℕ) → v < 2 ^ 32 → top ≡ min high 4294967295 → is_in_range low top v ≡ is_in_range low high v
capped_test low high top v small e = grind (arith, nat_tests)

-- the same of the ids that are found
ids_capped : (bytes : List ℕ) (w low high top a n : ℕ) → w ≤ 32 → top ≡ min high 4294967295
    → ids_between bytes w low top a n ≡ ids_between bytes w low high a n
unfolding ids_between
ids_capped bytes w low high top a n narrow' e =
    filter_agree (λ id. is_in_range low top (item bytes w id)) (λ id. is_in_range low high (item bytes w id))
    (λ id. capped_test low high top (item bytes w id) (item_fits bytes w id narrow') e) (range_with_len a n)

-- blocks, and the ids behind them
pub blocks_and_rest : (bytes : List ℕ) (v w low high top a n m b k : ℕ) (front mid out : List ℕ) → v ≡ w → w ≤ 32
    → top ≡ min high 4294967295 → a + n ≡ b → n + m ≡ k → mid ≡ front ++ ids_between bytes v low top a n
    → out ≡ mid ++ ids_between bytes w low high b m → out ≡ front ++ ids_between bytes w low high a k
blocks_and_rest bytes v w low high top a n m b k front mid out seen narrow' e at whole first later =
    later
    ∙ (ap (λ xs. xs ++ ids_between bytes w low high b m) (first ∙ ap (λ u. front ++ ids_between bytes u low top a n)
    seen ∙ ap (λ xs. front ++ xs) (ids_capped bytes w low high top a n narrow' e))
    ∙ (append_assoc front (ids_between bytes w low high a n) (ids_between bytes w low high b m)
    ∙ ap (λ xs. front ++ xs) (sym (ids_joined bytes w low high a n m b k at whole))))

-- an item is below the power of its width
item_below : (bytes : List ℕ) (w i : ℕ) → item bytes w i < 2 ^ w
item_below bytes w i = mod_below (number_of 256 bytes / 2 ^ (i * w)) (2 ^ w) (pow_pos w)

-- no number of the width is in such a range
past : (low high v w : ℕ) → v < 2 ^ w → 2 ^ w - 1 < low → is_in_range low high v ≡ false
past low high v w small h = grind (arith, nat_tests)

-- nothing is found from a low end on that is above the greatest number of the width
pub ids_past : (bytes : List ℕ) (w low high a n : ℕ) → 2 ^ w - 1 < low → ids_between bytes w low high a n ≡ []
unfolding ids_between
ids_past bytes w low high a zero h = refl
ids_past bytes w low high a (suc n) h =
    let later : List ℕ = ids_between bytes w low high (a + 1) n in
    ap (λ b. cond b (a ∷ later) later) (past low high (item bytes w a) w (item_below bytes w a) h)
    ∙ ids_past bytes w low high (a + 1) n h

-- the test of a number of the width with a span that is cut there
narrowed_test : (low span cut v w : ℕ) → v < 2 ^ w → low ≤ 2 ^ w - 1 → cut ≡ min span (2 ^ w - 1 - low)
    → is_in_range low (low + cut) v ≡ is_in_range low (low + span) v
narrowed_test low span cut v w small within e = grind (arith, nat_tests)

-- a span up to the greatest number of the width is as good as a longer one
ids_narrowed : (bytes : List ℕ) (w low span cut a n : ℕ) → low ≤ 2 ^ w - 1 → cut ≡ min span (2 ^ w - 1 - low)
    → ids_between bytes w low (low + cut) a n ≡ ids_between bytes w low (low + span) a n
unfolding ids_between
ids_narrowed bytes w low span cut a n within e =
    filter_agree (λ id. is_in_range low (low + cut) (item bytes w id)) (λ id. is_in_range low (low + span) (item bytes w id))
    (λ id. narrowed_test low span cut (item bytes w id) w (item_below bytes w id) within e) (range_with_len a n)

-- what is written for such a span is what was asked for
pub narrowed_written : (bytes : List ℕ) (w low span cut a n m : ℕ) (front out : List ℕ) → low ≤ 2 ^ w - 1
    → cut ≡ min span (2 ^ w - 1 - low) → n ≡ m → out ≡ front ++ ids_between bytes w low (low + cut) a n
    → out ≡ front ++ ids_between bytes w low (low + span) a m
narrowed_written bytes w low span cut a n m front out within e whole written =
    written
    ∙ (ap (λ k. front ++ ids_between bytes w low (low + cut) a k) whole
    ∙ ap (λ xs. front ++ xs) (ids_narrowed bytes w low span cut a m within e))
