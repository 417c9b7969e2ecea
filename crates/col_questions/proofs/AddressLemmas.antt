-- Hexadecimal digits as addresses.
use Rattle.std.proofs.Common.{◌≡◌, ℕ, ◌*◌, Bool, true, false, List, length, pos, Option, Some, None, Result, Ok, Err, refl, sym, ◌∙◌, ap}
use Rattle.std.specs.Prelude.{◌==◌}
use Rattle.std.specs.Result.{result_ok}
use Rattle.std.specs.Int.Digits.{number_from_digits}
use Rattle.std.proofs.lemmas.Bool.{eqb-true}
use Rattle.serde_json.specs.Data.{Data}
use Rattle.serde_json.specs.Find.{as_str}
use Rattle.hex.specs.Hex.{decode_of, decode_sized}
use Rattle.hex.specs.declared.error.FromHexError.{FromHexError}
use Rattle.hex.proofs.HexLemmas.{decode_of-ok, decode_sized-twice}
use Rattle.col_common.specs.Reading.{◌>>=◌, only_if}
use Rattle.col_model.specs.ColumnType as types
use Rattle.col_model.specs.Table.{Cell, number}
use Rattle.col_program.specs.Values.{as_cell}

-- 16 bytes as an address
abbrev address : List ℕ → Option Cell
address bytes = only_if (length bytes == 16) (number (pos (number_from_digits 256 bytes)))

-- digits that aren't those of 16 bytes
no_address : (text : List ℕ) (e : FromHexError) → decode_sized text 16 ≡ Err e → (result_ok (decode_of text) >>= address) ≡ None
no_address text e h = go (decode_of text) refl
  where
    by : (bytes : List ℕ) → decode_of text ≡ Ok bytes → (b : Bool) → (length bytes == 16) ≡ b
        → only_if {A = Cell} b (number (pos (number_from_digits 256 bytes))) ≡ None
    by bytes d false t = refl
    by bytes d true t =
        let sixteen : length bytes ≡ 16 = eqb-true (length bytes) 16 t in
        let twice : length text ≡ 2 * 16 = (decode_of-ok text bytes d).2 ∙ ap (λ n. 2 * n) sixteen in
        cc (sym h ∙ decode_sized-twice text 16 twice ∙ d)

    go : (r : Result (List ℕ) FromHexError) → decode_of text ≡ r → (result_ok r >>= address) ≡ None
    go (Err e) d = refl
    go (Ok bytes) d = by bytes d (length bytes == 16) refl

-- a part that has such digits
pub bad_address : (d : Data) (text : List ℕ) (e : FromHexError) → Some text ≡ as_str d
    → decode_sized text 16 ≡ Err e → None ≡ as_cell types.ip d
bad_address d text e s h = sym (ap (λ o. o >>= (λ s. result_ok (decode_of s)) >>= address) (sym s) ∙ no_address text e h)
