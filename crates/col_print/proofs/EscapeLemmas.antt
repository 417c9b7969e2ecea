-- Digits and texts as they stand in quotes.
use Rattle.std.proofs.Common.{◌≡◌, ◌∙◌, ℕ, zero, suc, ◌+◌, ◌-◌, ◌/◌, ◌%◌, ◌<◌, ◌≤◌, List, [], ◌∷◌, ◌++◌, length, take, drop, slice_index, refl, sym, ap, ap₂, append-nil, get_or, take-add, arith}
use Rattle.std.proofs.lemmas.List.{take_more, get_or-drop, length-drop}
use Rattle.std.proofs.lemmas.List.Concat.{flat_map-append}
use Rattle.std.specs.Char.{digit_char}
use Rattle.hex.specs.Hex.{encode_with, encode_lower, lower_digits}
use Rattle.json.specs.Print.{escape, escape_byte}

-- ---- digits

-- a digit stands in quotes as it is
pub digit-plain : (n : ℕ) → n < 16 → escape_byte (slice_index lower_digits n) ≡ digit_char n ∷ []
unfolding escape_byte
digit-plain zero lt = refl
digit-plain (suc zero) lt = refl
digit-plain (suc (suc zero)) lt = refl
digit-plain (suc (suc (suc zero))) lt = refl
digit-plain (suc (suc (suc (suc zero)))) lt = refl
digit-plain (suc (suc (suc (suc (suc zero))))) lt = refl
digit-plain (suc (suc (suc (suc (suc (suc zero)))))) lt = refl
digit-plain (suc (suc (suc (suc (suc (suc (suc zero))))))) lt = refl
digit-plain (suc (suc (suc (suc (suc (suc (suc (suc zero)))))))) lt = refl
digit-plain (suc (suc (suc (suc (suc (suc (suc (suc (suc zero))))))))) lt = refl
digit-plain (suc (suc (suc (suc (suc (suc (suc (suc (suc (suc zero)))))))))) lt = refl
digit-plain (suc (suc (suc (suc (suc (suc (suc (suc (suc (suc (suc zero))))))))))) lt = refl
digit-plain (suc (suc (suc (suc (suc (suc (suc (suc (suc (suc (suc (suc zero)))))))))))) lt = refl
digit-plain (suc (suc (suc (suc (suc (suc (suc (suc (suc (suc (suc (suc (suc zero))))))))))))) lt = refl
digit-plain (suc (suc (suc (suc (suc (suc (suc (suc (suc (suc (suc (suc (suc (suc zero)))))))))))))) lt = refl
digit-plain (suc (suc (suc (suc (suc (suc (suc (suc (suc (suc (suc (suc (suc (suc (suc zero))))))))))))))) lt = refl
digit-plain (suc (suc (suc (suc (suc (suc (suc (suc (suc (suc (suc (suc (suc (suc (suc (suc n)))))))))))))))) lt =
    absurd (omega (arith, lt))

-- the digits of bytes, and of more
digits-more : (t xs ys : List ℕ) → encode_with t (xs ++ ys) ≡ encode_with t xs ++ encode_with t ys
unfolding encode_with
digits-more t [] ys = refl
digits-more t (x ∷ xs) ys = ap (λ s. slice_index t (x / 16) ∷ slice_index t (x % 16) ∷ s) (digits-more t xs ys)

-- the digits of one byte, as they stand in quotes
pair-plain : (b : ℕ) → b < 256 → escape (encode_lower (b ∷ [])) ≡ digit_char (b / 16) ∷ digit_char (b % 16) ∷ []
unfolding encode_with
pair-plain b small =
    let high = digit-plain (b / 16) (omega (arith, small)) in
    let low = digit-plain (b % 16) (omega (arith, small)) in
    ap₂ (λ x y. x ++ (y ++ [])) high low

-- no byte has digits
pub digits-none : [] ≡ escape (encode_lower [])
unfolding encode_with
digits-none = refl

-- the digits of one byte more
pub digits-next : (bs : List ℕ) (i b : ℕ) → i < length bs → b ≡ slice_index bs i → b < 256
    → escape (encode_lower (take i bs)) ++ (digit_char (b / 16) ∷ digit_char (b % 16) ∷ [])
    ≡ escape (encode_lower (take (i + 1) bs))
digits-next bs i b within is small =
    let step : take (i + 1) bs ≡ take i bs ++ b ∷ [] = take_more bs i 0 within ∙ ap (λ c. take i bs ++ c ∷ []) (sym is) in
    ap (λ s. escape (encode_lower (take i bs)) ++ s) (sym (pair-plain b small))
    ∙ sym (flat_map-append escape_byte (encode_lower (take i bs)) (encode_lower (b ∷ [])))
    ∙ ap escape (sym (digits-more lower_digits (take i bs) (b ∷ [])))
    ∙ ap (λ s. escape (encode_lower s)) (sym step)

-- ---- texts

-- one byte more that stands in quotes as it is
pub plain-next : (text : List ℕ) (start end b : ℕ) → start ≤ end → end < length text → b ≡ slice_index text end
    → escape_byte b ≡ b ∷ [] → escape (take (end - start) (drop start text)) ≡ take (end - start) (drop start text)
    → escape (take (end + 1 - start) (drop start text)) ≡ take (end + 1 - start) (drop start text)
plain-next text start end b before within is plain left =
    let n = end - start in
    let ys = drop start text in
    let here : n < length ys = rw (length-drop start text) (omega (arith, before, within)) in
    let place : start + n ≡ end = omega (arith, before) in
    let item : slice_index ys n ≡ b = get_or-drop start text n 0 ∙ ap (λ k. get_or text k 0) place ∙ sym is in
    let more : end + 1 - start ≡ n + 1 = omega (arith, before) in
    let step : take (end + 1 - start) ys ≡ take n ys ++ b ∷ [] =
    ap (λ k. take k ys) more ∙ take_more ys n 0 here ∙ ap (λ c. take n ys ++ c ∷ []) item in
    ap escape step
    ∙ flat_map-append escape_byte (take n ys) (b ∷ [])
    ∙ ap₂ (λ x y. x ++ (y ++ [])) left plain
    ∙ sym step

-- a text up to one place, and from there to another
pub text-more : (text : List ℕ) (start end : ℕ) → start ≤ end
    → escape (take (end - start) (drop start text)) ≡ take (end - start) (drop start text)
    → escape (take start text) ++ take (end - start) (drop start text) ≡ escape (take end text)
text-more text start end before plain =
    let place : start + (end - start) ≡ end = omega (arith, before) in
    ap (λ s. escape (take start text) ++ s) (sym plain)
    ∙ sym (flat_map-append escape_byte (take start text) (take (end - start) (drop start text)))
    ∙ ap escape (sym (take-add start (end - start) text))
    ∙ ap (λ k. escape (take k text)) place

-- a text up to a place, and the byte there
pub text-next : (text : List ℕ) (end b : ℕ) → end < length text → b ≡ slice_index text end
    → escape (take end text) ++ escape_byte b ≡ escape (take (end + 1) text)
text-next text end b within is =
    ap (λ s. escape (take end text) ++ s) (sym (append-nil (escape_byte b)))
    ∙ sym (flat_map-append escape_byte (take end text) (b ∷ []))
    ∙ ap escape (ap (λ c. take end text ++ c ∷ []) is ∙ sym (take_more text end 0 within))
