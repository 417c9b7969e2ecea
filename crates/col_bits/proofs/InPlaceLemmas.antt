-- Packed numbers that are compared where they stand: what the lanes hold.
use Rattle.std.proofs.Common.{◌≡◌, ℕ, ◌+◌, ◌-◌, ◌*◌, ◌/◌, ◌%◌, ◌^◌, ◌<◌, Bool, cond, leb, List, map, bit_and, ◌∙◌, ap, arith, w32, IsTrue}
use Rattle.std.proofs.lemmas.Simd.{mask_l-mod, tops_compared, zip2_of_maps}
use lib.Lanes.{zip2, mask_l, top}
use Rattle.std.specs.Int.{is_in_range}
use Rattle.std.specs.List.{range_with_len}
use Rattle.col_bits.specs.Places.{is_raised_width}
use Rattle.col_bits.specs.Packed.{number_of, item}
use Rattle.col_bits.proofs.LaneLemmas.{map_agree}
use Rattle.col_bits.proofs.RaisedLemmas.{item_raised, lane_test}

-- four numbers, moved up, less the low end
pub above_four : (bs : List ℕ) (w group from low mask : ℕ) (words masks lows : List ℕ) → IsTrue (is_raised_width w)
    → mask ≡ 2 ^ w - 1
    → words ≡ map (λ k. number_of 256 bs / 2 ^ (8 * (group * w + k * w / 8)) % 2 ^ 32) (range_with_len from 4)
    → masks ≡ map (λ k. mask * 2 ^ (k * w % 8)) (range_with_len from 4)
    → lows ≡ map (λ k. low * 2 ^ (k * w % 8)) (range_with_len from 4)
    → zip2 (λ a b. (a + (2 ^ 32 - b)) % 2 ^ 32) (zip2 bit_and words masks) lows
    ≡ map (λ k. (item bs w (8 * group + k) * 2 ^ (k * w % 8) + (2 ^ 32 - low * 2 ^ (k * w % 8))) % 2 ^ 32)
    (range_with_len from 4)
above_four bs w group from low mask words masks lows narrow is ew em el =
    let ks : List ℕ = range_with_len from 4 in
    let word : ℕ → ℕ = λ k. number_of 256 bs / 2 ^ (8 * (group * w + k * w / 8)) % 2 ^ 32 in
    let anded : zip2 bit_and words masks ≡ map (λ k. item bs w (8 * group + k) * 2 ^ (k * w % 8)) ks =
    zip2_of_maps bit_and word (λ k. mask * 2 ^ (k * w % 8)) ks ew em
    ∙ map_agree _ _ ks (λ k. ap (λ m. bit_and (word k) (m * 2 ^ (k * w % 8))) is ∙ item_raised bs w group k narrow) in
    zip2_of_maps (λ a b. (a + (2 ^ 32 - b)) % 2 ^ 32) (λ k. item bs w (8 * group + k) * 2 ^ (k * w % 8))
    (λ k. low * 2 ^ (k * w % 8)) ks anded el

-- the comparison of sixteen lanes tests sixteen numbers
pub hits_16 : (bs : List ℕ) (w group from low span : ℕ) (xs ys : List ℕ) → IsTrue (is_raised_width w)
    → low + span < 2 ^ w
    → xs ≡ map (λ k. (item bs w (8 * group + k) * 2 ^ (k * w % 8) + (2 ^ 32 - low * 2 ^ (k * w % 8))) % 2 ^ 32)
    (range_with_len from 16)
    → ys ≡ map (λ k. span * 2 ^ (k * w % 8)) (range_with_len from 16)
    → mask_l (map (top 31) (zip2 (λ a b. cond (leb a b) (2 ^ 32 - 1) 0) xs ys)) % 2 ^ 64
    ≡ mask_l (map (λ k. is_in_range low (low + span) (item bs w (8 * group + k))) (range_with_len from 16))
hits_16 bs w group from low span xs ys narrow range ex ey =
    let ks : List ℕ = range_with_len from 16 in
    let tests : List Bool = map (λ k. is_in_range low (low + span) (item bs w (8 * group + k))) ks in
    let compared : map (top 31) (zip2 (λ a b. cond (leb a b) (2 ^ 32 - 1) 0) xs ys) ≡ tests =
    tops_compared w32 leb xs ys
    ∙ (zip2_of_maps leb (λ k. (item bs w (8 * group + k) * 2 ^ (k * w % 8) + (2 ^ 32 - low * 2 ^ (k * w % 8))) % 2 ^ 32)
    (λ k. span * 2 ^ (k * w % 8)) ks ex ey
    ∙ map_agree _ _ ks (λ k. lane_test bs w group k low span narrow range)) in
    ap (λ ms. mask_l ms % 2 ^ 64) compared ∙ mask_l-mod tests 64 (omega arith)
