-- Lines of values in the plain form: an array of a type's name, a number, a text, and a text, a
-- number or a truth value.
use Rattle.std.specs.Prelude.{ℕ, List, [], ◌∷◌, Option, Some, None, option_map}
use Rattle.json.specs.Token.{Token}
use Rattle.serde_json.specs.Data.{Data, boolean, number, string}
use Rattle.serde_json.specs.Read.{number_of}
use Rattle.col_common.specs.Reading.{◌>>=◌}
use Rattle.col_model.specs.Recording.{recorded}
use Rattle.col_program.specs.Script.{Line, call}
use Rattle.col_program.specs.Values.{type_named, as_u32}
use Rattle.col_questions.specs.Values.{typed_as}

-- the tokens of an array of four
abbrev pub tokens_of : List ℕ → List ℕ → List ℕ → Token → List Token
tokens_of word doc name value =
    Token.begin_array ∷ Token.string word ∷ Token.number doc ∷ Token.string name ∷ value
    ∷ Token.end_array ∷ []

-- what a token is, where it is a value by itself
abbrev pub data_of : Token → Option Data
data_of (Token.string s) = Some (string s)
data_of (Token.number s) = option_map number (number_of s)
data_of (Token.boolean b) = Some (boolean b)
data_of _ = None

-- the line of these tokens
abbrev pub plain_line : List ℕ → List ℕ → List ℕ → Token → Option Line
plain_line word doc name value = type_named word >>= λ t.
    (data_of (Token.number doc) >>= as_u32) >>= λ d. (data_of value >>= typed_as t) >>= λ p.
    Some (call (recorded d name p.0 p.1))
