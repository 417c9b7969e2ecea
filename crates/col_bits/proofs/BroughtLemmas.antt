-- Four words, brought into lanes by one load and one shuffle of its bytes.
use Rattle.std.proofs.Common.{◌≡◌, ℕ, ◌+◌, ◌-◌, ◌*◌, ◌/◌, ◌%◌, ◌^◌, ◌<◌, ◌≤◌, List, [], ◌∷◌, map, get_or, refl, ◌∙◌, ap, arith, w8, add-zero, IsTrue}
use Rattle.std.proofs.lemmas.Simd.{Each1-get_or, swz_l, get_or-swz_l_below, get_or-chunk, get_or_wider, Each1-from_get_or}
use lib.Lanes.{Each1, chunk, number_l, digits_l}
use Rattle.std.specs.List.{range_with_len}
use Rattle.col_bits.specs.Places.{is_raised_width}
use Rattle.col_bits.specs.Packed.{number_of}
use Rattle.col_bits.proofs.WordLemmas.{AreBytes, after, step_to}
use Rattle.col_bits.proofs.RaisedLemmas.{most_32}

-- the word of four bytes
abbrev word_at : List ℕ → ℕ → ℕ
word_at bs at = number_of 256 bs / 2 ^ (8 * at) % 2 ^ 32

-- four bytes read as one number
four_is : (bs : List ℕ) (at : ℕ) → AreBytes bs
    → get_or bs at 0 + 256 * (get_or bs (at + 1) 0 + 256 * (get_or bs (at + 2) 0 + 256 * (get_or bs (at + 3) 0 + 256 * 0)))
    ≡ word_at bs at
four_is bs at h =
    let s0 = step_to bs at (at + 1) (omega arith) in
    let s1 = step_to bs (at + 1) (at + 2) (omega arith) in
    let s2 = step_to bs (at + 2) (at + 3) (omega arith) in
    let s3 = step_to bs (at + 3) (at + 4) (omega arith) in
    omega (arith, after bs at h, h at, h (at + 1), h (at + 2), h (at + 3))

-- the same of four lanes that hold them
word_from : (bs : List ℕ) (at l0 l1 l2 l3 : ℕ) → AreBytes bs → l0 ≡ get_or bs at 0 → l1 ≡ get_or bs (at + 1) 0
    → l2 ≡ get_or bs (at + 2) 0 → l3 ≡ get_or bs (at + 3) 0 → l0 + 256 * (l1 + 256 * (l2 + 256 * (l3 + 256 * 0))) ≡ word_at bs at
word_from bs at l0 l1 l2 l3 h e0 e1 e2 e3 = (λ i. e0 i + 256 * (e1 i + 256 * (e2 i + 256 * (e3 i + 256 * 0)))) ∙ four_is bs at h

-- the places of the four bytes from p on, before others
abbrev four_from : ℕ → List ℕ → List ℕ
four_from p ps = p ∷ (p + 1) ∷ (p + 2) ∷ (p + 3) ∷ ps

-- the places of the bytes of four words, of which the first begins at 0, and the others at b, c and d
abbrev places : ℕ → ℕ → ℕ → List ℕ
places b c d = four_from 0 (four_from b (four_from c (four_from d [])))

-- such places are within a load where the first begins at most at 12
four_small : (p : ℕ) (ps : List ℕ) → p ≤ 12 → Each1 (λ j. j < 16) ps → Each1 (λ j. j < 16) (four_from p ps)
four_small p ps h rest = (omega arith, (omega arith, (omega arith, (omega arith, rest))))

-- the places of all four are
small_places : (b c d : ℕ) → b ≤ 12 → c ≤ 12 → d ≤ 12 → Each1 (λ j. j < 16) (places b c d)
small_places b c d hb hc hd =
    four_small 0 (four_from b (four_from c (four_from d []))) (omega arith)
    (four_small b (four_from c (four_from d [])) hb
    (four_small c (four_from d []) hc (four_small d [] hd tt)))

-- the bytes that are brought into lanes
abbrev brought : List ℕ → ℕ → ℕ → ℕ → ℕ → List ℕ
brought bs base b c d = swz_l w8 16 (chunk base 16 bs) 0 (places b c d)

module _ (bs : List ℕ) (base b c d : ℕ) (h : AreBytes bs) (hb : b ≤ 12) (hc : c ≤ 12) (hd : d ≤ 12) where
  -- byte m that is brought is that at its place
  lane : (m p : ℕ) → m < 16 → get_or (places b c d) m 0 ≡ p → get_or (brought bs base b c d) m 0 ≡ get_or bs (base + p) 0
  lane m p within is =
      let below : get_or (places b c d) m 0 < 16 =
      Each1-get_or (λ j. j < 16) (places b c d) m 0 within (small_places b c d hb hc hd) in
      let small : p < 16 = omega arith in
      let place : 16 * ((0 + m) / 16) + get_or (places b c d) m 0 ≡ p = omega arith in
      get_or-swz_l_below w8 16 (chunk base 16 bs) 0 (places b c d) m within below
      ∙ (ap (λ q. get_or (chunk base 16 bs) q 0) place ∙ get_or-chunk base 16 bs p 0 small)

  -- those that are brought are bytes
  bytes_brought : Each1 (λ x. x < 256) (brought bs base b c d)
  bytes_brought =
      let one : (m p : ℕ) → m < 16 → get_or (places b c d) m 0 ≡ p → get_or (brought bs base b c d) m 0 < 256 =
      λ m p within is. omega (arith, lane m p within is, h (base + p)) in
      Each1-from_get_or (λ x. x < 256) (brought bs base b c d) 0 (λ m within. one m (get_or (places b c d) m 0) within refl)

  -- the word of a lane, by the place of its first byte
  word_in : (m p at : ℕ) → m + 4 ≤ 16 → get_or (places b c d) m 0 ≡ p → get_or (places b c d) (m + 1) 0 ≡ p + 1
      → get_or (places b c d) (m + 2) 0 ≡ p + 2 → get_or (places b c d) (m + 3) 0 ≡ p + 3 → base + p ≡ at
      → get_or (brought bs base b c d) m 0 + 256 * (get_or (brought bs base b c d) (m + 1) 0
      + 256 * (get_or (brought bs base b c d) (m + 2) 0 + 256 * (get_or (brought bs base b c d) (m + 3) 0 + 256 * 0)))
      ≡ word_at bs at
  word_in m p at within e0 e1 e2 e3 is =
      let at1 : base + (p + 1) ≡ at + 1 = omega arith in
      let at2 : base + (p + 2) ≡ at + 2 = omega arith in
      let at3 : base + (p + 3) ≡ at + 3 = omega arith in
      word_from bs at _ _ _ _ h
      (lane m p (omega arith) e0 ∙ ap (λ q. get_or bs q 0) is)
      (lane (m + 1) (p + 1) (omega arith) e1 ∙ ap (λ q. get_or bs q 0) at1)
      (lane (m + 2) (p + 2) (omega arith) e2 ∙ ap (λ q. get_or bs q 0) at2)
      (lane (m + 3) (p + 3) (omega arith) e3 ∙ ap (λ q. get_or bs q 0) at3)

  -- the four words
  words_are : (at_b at_c at_d : ℕ) → base + b ≡ at_b → base + c ≡ at_c → base + d ≡ at_d
      → digits_l (2 ^ 32) 4 (number_l (2 ^ 8) (brought bs base b c d))
      ≡ word_at bs base ∷ word_at bs at_b ∷ word_at bs at_c ∷ word_at bs at_d ∷ []
  words_are at_b at_c at_d eb ec ed =
      let lanes : List ℕ = brought bs base b c d in
      let w0 = get_or_wider 256 4 4294967296 4 (brought bs base b c d) 0 refl bytes_brought (omega arith)
      ∙ word_in 0 0 base (omega arith) refl refl refl refl (add-zero base) in
      let w1 = get_or_wider 256 4 4294967296 4 (brought bs base b c d) 1 refl bytes_brought (omega arith)
      ∙ word_in 4 b at_b (omega arith) refl refl refl refl eb in
      let w2 = get_or_wider 256 4 4294967296 4 (brought bs base b c d) 2 refl bytes_brought (omega arith)
      ∙ word_in 8 c at_c (omega arith) refl refl refl refl ec in
      let w3 = get_or_wider 256 4 4294967296 4 (brought bs base b c d) 3 refl bytes_brought (omega arith)
      ∙ word_in 12 d at_d (omega arith) refl refl refl refl ed in
      λ i. w0 i ∷ w1 i ∷ w2 i ∷ w3 i ∷ []

-- the words of four numbers of such a width
pub words_four : (bs : List ℕ) (w start from b c d : ℕ) → AreBytes bs → IsTrue (is_raised_width w)
    → b ≡ (from + 1) * w / 8 - from * w / 8 → c ≡ (from + 2) * w / 8 - from * w / 8
    → d ≡ (from + 3) * w / 8 - from * w / 8
    → digits_l (2 ^ 32) 4 (number_l (2 ^ 8) (brought bs (start + from * w / 8) b c d))
    ≡ map (λ k. number_of 256 bs / 2 ^ (8 * (start + k * w / 8)) % 2 ^ 32) (range_with_len from 4)
words_four bs w start from b c d h narrow eb ec ed =
    let m1 : (from + 1) * w ≡ from * w + w = omega arith in
    let m2 : (from + 2) * w ≡ from * w + 2 * w = omega arith in
    let m3 : (from + 3) * w ≡ from * w + 3 * w = omega arith in
    let wide = most_32 w narrow in
    let hb : b ≤ 12 = omega (arith, m1, wide) in
    let hc : c ≤ 12 = omega (arith, m2, wide) in
    let hd : d ≤ 12 = omega (arith, m3, wide) in
    let ab : start + from * w / 8 + b ≡ start + (from + 1) * w / 8 = omega (arith, m1) in
    let ac : start + from * w / 8 + c ≡ start + (from + 2) * w / 8 = omega (arith, m2) in
    let ad : start + from * w / 8 + d ≡ start + (from + 3) * w / 8 = omega (arith, m3) in
    let f2 : from + 2 ≡ from + 1 + 1 = omega arith in
    let f3 : from + 3 ≡ from + 1 + 1 + 1 = omega arith in
    words_are bs (start + from * w / 8) b c d h hb hc hd _ _ _ ab ac ad
    ∙ (λ i. word_at bs (start + from * w / 8) ∷ word_at bs (start + (from + 1) * w / 8)
    ∷ word_at bs (start + f2 i * w / 8) ∷ word_at bs (start + f3 i * w / 8) ∷ [])
