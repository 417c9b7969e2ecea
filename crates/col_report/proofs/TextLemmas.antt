-- The text of values.
use Rattle.std.proofs.Common.{◌≡◌, ◌∙◌, ℕ, ℤ, pos, negsuc, Bool, true, false, List, [], ◌∷◌, ◌++◌, Result, OnOk, refl, sym, ap, subst, codes, cond, append-nil, append_assoc}
use Rattle.std.specs.Str.{IsUtf8, is_utf8}
use Rattle.std.proofs.lemmas.Str.{IsUtf8-from_is_utf8, is_utf8-from_IsUtf8}
use Rattle.std.specs.Int.{w128, to_be_bytes}
use Rattle.std.specs.Fmt.{signed_decimal}
use Rattle.hex.specs.Hex.{encode_lower}
use Rattle.json.specs.Print.{quoted, escape_byte}
use Rattle.serde_json.specs.Written.{number_text}
use Rattle.serde_json.specs.Find.{of_integer}
use Rattle.serde_json.specs.Data.{number, string}
use Rattle.col_model.specs.ColumnType as types
use Rattle.col_program.specs.Report.{cell_data, text_data}
use Rattle.col_types.specs.Cells.{unsigned_cell, bool_cell}
use Rattle.col_print.specs.Puts.{SeenOut, Puts}
use Rattle.col_print.proofs.PutsLemmas.{puts_as}
use Rattle.col_report.specs.Printed.{Spells, PutsData, digits_data}

-- a whole number's text is that of std
integer-text : (z : ℤ) → number_text (of_integer z) ≡ signed_decimal z
integer-text (pos n) = refl
integer-text (negsuc n) = refl

-- a number with a sign
pub integer_put : (a b : SeenOut) (z : ℤ) → Puts a b (signed_decimal z) → PutsData a b (number (of_integer z))
unfolding PutsData
integer_put a b z put = puts_as a b _ _ (sym (integer-text z)) put

-- a flag that is set, and one that isn't
pub true_put : (a b : SeenOut) (v : Bool) → v ≡ true → Puts a b (codes "true") → PutsData a b (cell_data types.bool (bool_cell v))
unfolding PutsData
true_put a b v is put = rw is put

pub false_put : (a b : SeenOut) (v : Bool) → v ≡ false → Puts a b (codes "false") → PutsData a b (cell_data types.bool (bool_cell v))
unfolding PutsData
false_put a b v is put = rw is put

-- an address, by its octets
pub octets-put : (a b : SeenOut) (octets : List ℕ) (m n : ℕ) → m ≡ n → octets ≡ to_be_bytes w128 m
    → Puts a b (quoted (encode_lower octets)) → PutsData a b (cell_data types.ip (unsigned_cell n))
unfolding PutsData
octets-put a b octets m n same is put =
    subst (λ s. Puts a b (quoted (encode_lower s))) (is ∙ ap (to_be_bytes w128) same) put

-- bytes that aren't UTF-8
pub digits-spelled : (a b c d : List ℕ) (s : List ℕ) → b ≡ a ++ codes "[\"hex\","
    → Spells b c (string (encode_lower s)) → d ≡ c ++ 93 ∷ [] → Spells a d (digits_data s)
unfolding Spells escape_byte
digits-spelled a b c d s one two three = rw (three, two, one) (simp append_assoc)

-- a text, which is UTF-8 or not
pub text-put : (a b : SeenOut) (t s : List ℕ) → t ≡ s → IsUtf8 s → Puts a b (quoted t) → PutsData a b (text_data s)
unfolding PutsData
text-put a b t s same utf8 put = rw (is_utf8-from_IsUtf8 s utf8) (subst (λ t. Puts a b (quoted t)) same put)

-- a text that isn't UTF-8 is spelled by its digits
pub other-put : (a b : SeenOut) (s : List ℕ) → (IsUtf8 s → ⊥) → PutsData a b (digits_data s) → PutsData a b (text_data s)
other-put a b s other put = by (is_utf8 s) (λ is. other (IsUtf8-from_is_utf8 s is))
  where
    by : (v : Bool) → (v ≡ true → ⊥) → PutsData a b (cond v (string s) (digits_data s))
    by true never = absurd (never refl)
    by false never = put
