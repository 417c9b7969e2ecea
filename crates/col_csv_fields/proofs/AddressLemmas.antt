-- Texts of hexadecimal digits as addresses.
use Rattle.std.proofs.Common.{◌≡◌, ◌<◌, ◌^◌, ◌∙◌, ℕ, Bool, true, false, List, length, bytes_eq, Option, Some, None, Result, Ok, Err, refl, sym, ap, subst, arith}
use Rattle.std.specs.Prelude.{◌&&◌}
use Rattle.std.specs.Int.{to_be_bytes, w128}
use Rattle.std.specs.Int.Digits.{number_from_digits}
use Rattle.std.specs.List.{list_all}
use Rattle.std.specs.Result.{result_ok}
use Rattle.std.proofs.lemmas.Bool.Decides.{nat_tests}
use Rattle.std.proofs.lemmas.Int.Digits.{number_lt}
use Rattle.std.proofs.lemmas.Slice.Eq.{bytes_eq-Decides}
use Rattle.hex.specs.Hex.{IsBytes, decode_of, decode_sized, encode_lower}
use Rattle.hex.specs.declared.error.FromHexError.{FromHexError}
use Rattle.hex.proofs.HexLemmas.{decode_of-ok, decode_sized-twice, decode_sized-ok, decode_sized-encode_lower}
use Rattle.col_common.specs.Reading.{◌>>=◌, only_if}
use Rattle.col_common.proofs.OctetLemmas.{octets_again, octets_closed, are_octets}
use Rattle.col_model.specs.ColumnType as types
use Rattle.col_model.specs.Limits.{is_of_type}
use Rattle.col_model.specs.Table.{Cell}
use Rattle.col_model.proofs.OneFormLaws.{bytes_by_recursion}
use Rattle.col_types.specs.Cells.{unsigned_cell}
use Rattle.col_csv.specs.Csv.{value_text}
use Rattle.col_csv.specs.CsvTable.{value_of_text}
use Rattle.col_csv.proofs.ValueLemmas.{below-places}
use Rattle.col_csv_fields.specs.Fields.{is_lower_digit}
use Rattle.col_csv_fields.proofs.LowerLemmas.{lower-again, lower-digits}

-- the digits of an address
abbrev address_digits : ℕ → List ℕ
address_digits n = encode_lower (to_be_bytes w128 n)

-- its number as the value of a text, where it is one and these are its digits
abbrev octets_if : List ℕ → ℕ → Option Cell
octets_if s n = only_if (is_of_type types.ip (unsigned_cell n) && bytes_eq (address_digits n) s) (unsigned_cell n)

-- the value of a text that is decoded as this
abbrev address_if : List ℕ → Result (List ℕ) FromHexError → Option Cell
address_if s r = result_ok r >>= λ b. octets_if s (number_from_digits 256 b)

-- that is the definition's
address-if : (s : List ℕ) → value_of_text types.ip s ≡ address_if s (decode_of s)
address-if s = go (decode_of s)
  where
    go : (r : Result (List ℕ) FromHexError) → ((result_ok r >>= λ b. Some (unsigned_cell (number_from_digits 256 b)))
        >>= λ c. only_if (is_of_type types.ip c && bytes_eq (value_text types.ip c) s) c) ≡ address_if s r
    go (Err e) = refl
    go (Ok b) = refl

-- the octets of an address are bytes
octets-bytes : (n : ℕ) → IsBytes (to_be_bytes w128 n)
octets-bytes n = below-places (to_be_bytes w128 n) (are_octets n)

-- a text that isn't that of an address
no-address : (s : List ℕ) → ((n : ℕ) → address_digits n ≡ s → ⊥) → None ≡ value_of_text types.ip s
no-address s never = go (decode_of s) ∙ sym (address-if s)
  where
    by : (n : ℕ) (fits t : Bool) → bytes_eq (address_digits n) s ≡ t → None ≡ only_if (fits && t) (unsigned_cell n)
    by n false t e = refl
    by n true false e = refl
    by n true true e = absurd (never n ((bytes_eq-Decides (address_digits n) s).0 e))

    go : (r : Result (List ℕ) FromHexError) → None ≡ address_if s r
    go (Err e) = refl
    go (Ok b) =
        let n : ℕ = number_from_digits 256 b in
        by n (is_of_type types.ip (unsigned_cell n)) (bytes_eq (address_digits n) s) refl

-- other digits than an address's
pub no-lower-address : (s : List ℕ) → list_all is_lower_digit s ≡ false → None ≡ value_of_text types.ip s
no-lower-address s capital = no-address s (λ n same.
    let lower = ap (list_all is_lower_digit) (sym same) ∙ lower-digits (to_be_bytes w128 n) (octets-bytes n) in
    let wrong : false ≡ true = sym capital ∙ lower in
    cc)

-- a text that isn't decoded as 16 bytes
pub no-sized-address : (s : List ℕ) (e : FromHexError) → decode_sized s 16 ≡ Err e → None ≡ value_of_text types.ip s
no-sized-address s e bad = no-address s (λ n same.
    let again = decode_sized-encode_lower (to_be_bytes w128 n) 16 refl (octets-bytes n) in
    cc (sym bad ∙ ap (λ s. decode_sized s 16) (sym same) ∙ again))

-- an address whose digits these are
number-is : (s : List ℕ) (n : ℕ) → n < 2 ^ 128 → address_digits n ≡ s → Some (unsigned_cell n) ≡ octets_if s n
number-is s n small same =
    let fits : is_of_type types.ip (unsigned_cell n) ≡ true = grind (arith, nat_tests) in
    rw (fits, (bytes_eq-Decides (address_digits n) s).1 same) refl

-- 16 bytes are an address, where the digits aren't capitals
pub address-read : (s b : List ℕ) (n : ℕ) → list_all is_lower_digit s ≡ true → decode_sized s 16 ≡ Ok b
    → n ≡ number_from_digits 256 b → Some (unsigned_cell n) ≡ value_of_text types.ip s
address-read s b n lower read is =
    let twice = decode_sized-ok s 16 b read in
    let d : decode_of s ≡ Ok b = sym (decode_sized-twice s 16 twice) ∙ read in
    let told = decode_of-ok s b d in
    let sixteen : length b ≡ 16 = omega (arith, told.2, twice) in
    let below = bytes_by_recursion b told.3 in
    let m : ℕ = number_from_digits 256 b in
    let small : m < 2 ^ 128 = subst (λ k. m < 256 ^ k) sixteen (number_lt 256 b below) in
    let octets : to_be_bytes w128 m ≡ b =
    octets_closed (to_be_bytes w128 m) b (sym sixteen) (are_octets m) below (octets_again m small) in
    ap (λ n. Some (unsigned_cell n)) is ∙ number-is s m small (ap encode_lower octets ∙ lower-again s b lower d)
    ∙ ap (address_if s) (sym d) ∙ sym (address-if s)
