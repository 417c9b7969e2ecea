-- Texts of hexadecimal digits as bytes.
use Rattle.std.proofs.Common.{◌≡◌, ◌/◌, ◌%◌, ◌∙◌, ℕ, Bool, true, false, List, ◌++◌, length, take, drop, bytes_eq, inl, inr, Option, Some, None, Result, Ok, Err, refl, sym, ap, subst, arith}
use Rattle.std.specs.Prelude.{◌&&◌, MatchResult, is_ok}
use Rattle.std.specs.List.{list_all}
use Rattle.std.specs.Result.{result_ok}
use Rattle.std.proofs.lemmas.Bool.{cases_eq}
use Rattle.std.proofs.lemmas.List.{append-nil, drop_all, take_all}
use Rattle.std.proofs.lemmas.Slice.Eq.{bytes_eq-Decides}
use Rattle.hex.specs.Hex.{decode_of, decode_sized, encode_lower}
use Rattle.hex.specs.declared.error.FromHexError.{FromHexError}
use Rattle.hex.proofs.HexLemmas.{decode_of-ok, decode_of-odd, decode_sized-twice, decode_sized-odd}
use Rattle.col_common.specs.Reading.{◌>>=◌, only_if}
use Rattle.col_model.specs.ColumnType as types
use Rattle.col_model.specs.Limits.{is_of_type}
use Rattle.col_model.specs.Table.{Cell, text}
use Rattle.col_csv.specs.Csv.{value_text}
use Rattle.col_csv.specs.CsvTable.{value_of_text}
use Rattle.col_csv_fields.specs.Fields.{is_lower_digit}
use Rattle.col_csv_fields.proofs.LowerLemmas.{lower-again, lower-digits}

-- the value of a text that is decoded as this
abbrev bytes_if : List ℕ → Result (List ℕ) FromHexError → Option Cell
bytes_if s r =
    (result_ok r >>= λ b. Some (text b))
    >>= λ c. only_if (is_of_type types.bytes c && bytes_eq (value_text types.bytes c) s) c

-- other digits than those of bytes
pub no-bytes : (s : List ℕ) → list_all is_lower_digit s ≡ false → value_of_text types.bytes s ≡ None
no-bytes s capital = go (decode_of s) refl
  where
    by : (b : List ℕ) → decode_of s ≡ Ok b → (t : Bool) → bytes_eq (encode_lower b) s ≡ t → only_if t (text b) ≡ None
    by b d false e = refl
    by b d true e =
        let same : encode_lower b ≡ s = (bytes_eq-Decides (encode_lower b) s).0 e in
        let lower = ap (list_all is_lower_digit) (sym same) ∙ lower-digits b (decode_of-ok s b d).3 in
        let wrong : false ≡ true = sym capital ∙ lower in
        cc

    go : (r : Result (List ℕ) FromHexError) → decode_of s ≡ r → bytes_if s r ≡ None
    go (Err e) d = refl
    go (Ok b) d = by b d (bytes_eq (encode_lower b) s) refl

-- a text into room for half as many bytes is decoded as it is
half-room : (s : List ℕ) (n : ℕ) → n ≡ length s / 2 → decode_sized s n ≡ decode_of s
half-room s n half =
    elim (cases_eq (length s % 2) 1) [
      | inl odd ↦ decode_sized-odd s n odd ∙ sym (decode_of-odd s odd)
      | inr even ↦ decode_sized-twice s n (omega arith)
    ]

-- what a call answers and writes, for what a text is decoded as
abbrev Decoded : Result Unit FromHexError → List ℕ → Result (List ℕ) FromHexError → Type 0
Decoded r out d = MatchResult d (λ b. (r ≡ Ok tt) × (out ≡ b)) (λ e. r ≡ Err e)

-- what is decoded is the value, where the digits aren't capitals
pub bytes-read : (s out : List ℕ) (n : ℕ) (r : Result Unit FromHexError) → list_all is_lower_digit s ≡ true → n ≡ length s / 2
    → Decoded r out (decode_sized s n) → value_of_text types.bytes s ≡ only_if (is_ok r) (text out)
bytes-read s out n r lower half read = go (decode_of s) refl (subst (Decoded r out) (half-room s n half) read)
  where
    go : (d : Result (List ℕ) FromHexError) → decode_of s ≡ d → Decoded r out d → bytes_if s d ≡ only_if (is_ok r) (text out)
    go (Err e) d h = rw h refl
    go (Ok b) d h =
        let again = (bytes_eq-Decides (encode_lower b) s).1 (lower-again s b lower d) in
        rw (again, h.0, h.1) refl

-- a slice that was written in front of nothing
pub front-is : (n m : ℕ) (out xs : List ℕ) → n ≡ m → length out ≡ m → length xs ≡ m
    → out ≡ take n (out ++ drop (length out) xs)
front-is n m out xs a b d = rw (drop_all (length out) xs (omega arith), append-nil) (sym (take_all n out (omega arith)))
