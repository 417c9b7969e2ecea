-- What the tokens of a line in the plain form are read as.
use Rattle.std.proofs.Common.{◌≡◌, ℕ, List, [], ◌∷◌, Option, Some, None, Result, Ok, Err, IsUtf8, option_map, option_and_then, refl, sym, ◌∙◌, ap}
use Rattle.std.specs.Prelude.{IfOk, IfSome}
use Rattle.json.specs.Token.{Token}
use Rattle.json.specs.Lex.{tokens}
use Rattle.json.specs.Json as json
use Rattle.json.specs.Json.{value, items}
use Rattle.serde_json.specs.Data.{Data, string, array, no_items, item}
use Rattle.serde_json.specs.Read.{read, of_json}
use Rattle.col_common.specs.Reading.{◌>>=◌}
use Rattle.col_model.specs.ColumnType.{ColumnType}
use Rattle.col_model.specs.Table.{Cell}
use Rattle.col_model.specs.Recording.{recorded}
use Rattle.col_program.specs.Script.{Line, call, line_spelled, line_spelled_by, shapes, value_line, line_among}
use Rattle.col_program.specs.Values.{type_named, as_u32, as_cell, as_list}
use Rattle.col_program.proofs.ScriptLaws.{read-some}
use Rattle.col_questions.specs.Values.{typed_as}
use Rattle.col_lines.specs.Plain.{tokens_of, data_of, plain_line}
use Rattle.col_lines.proofs.WordLemmas.{line_of_value}

-- what tokens are read as
abbrev read_tokens : List Token → Option Data
read_tokens ts = option_and_then of_json (option_and_then (λ p. json.if_last p.0 p.1) (value 127 ts))

-- a fact on what is there
pub each : {A E : Type 0} {P Q : A → Type 0} (r : Result (Option A) E) → ((x : A) → P x → Q x)
    → IfOk r (λ o. IfSome o P) → IfOk r (λ o. IfSome o Q)
each (Ok (Some x)) h p = h x p
each (Ok None) h p = p
each (Err e) h p = p

-- no value
abbrev nothing : Option (ColumnType × Cell)
nothing = None

-- a cell with its type
abbrev paired : ColumnType → Option Cell → Option (ColumnType × Cell)
paired t c = c >>= λ cell. Some (t, cell)

module _ (w d m : List ℕ) where
  -- the array of four items, where two of them are there
  abbrev four_of : Option Data → Option Data → Option Data
  four_of jd jv =
      option_map array (option_map (item (string w)) (option_and_then (λ x. option_map (item x) (option_map (item (string m))
      (option_and_then (λ y. Some (item y no_items)) jv))) jd))

  -- the array of four items
  abbrev four : Data → Data → Data
  four x y = array (item (string w) (item x (item (string m) (item y no_items))))

  in_parts : (v : Token) (y : Data) → data_of v ≡ Some y → read_tokens (tokens_of w d m v) ≡ four_of (data_of (Token.number d)) (data_of v)
  unfolding value items
  in_parts (Token.string s) y e = refl
  in_parts (Token.number s) y e = refl
  in_parts (Token.boolean b) y e = refl
  in_parts Token.begin_object y e = cc
  in_parts Token.end_object y e = cc
  in_parts Token.begin_array y e = cc
  in_parts Token.end_array y e = cc
  in_parts (Token.key s) y e = cc
  in_parts Token.null y e = cc
  in_parts Token.bad y e = cc

  plain_read : (text : List ℕ) (v : Token) (x y : Data) → tokens text ≡ tokens_of w d m v
      → data_of (Token.number d) ≡ Some x → data_of v ≡ Some y → read text ≡ Some (four x y)
  plain_read text v x y e ex ey = ap read_tokens e ∙ in_parts v y ey ∙ ap (λ o. four_of o (data_of v)) ex ∙ ap (λ o. four_of (Some x) o) ey

  -- both ways to the line of four items
  same_line : (t : ColumnType) (x y : Data)
      → value_line t (x ∷ string m ∷ y ∷ [])
      ≡ (as_u32 x >>= λ d. typed_as t y >>= λ p. Some (call (recorded d m p.0 p.1)))
  same_line t x y = go (as_u32 x) (as_cell t y)
    where
      go : (n : Option ℕ) (c : Option Cell)
          → (n >>= λ d. c >>= λ cell. Some (call (recorded d m t cell)))
          ≡ (n >>= λ d. paired t c >>= λ p. Some (call (recorded d m p.0 p.1)))
      go None c = refl
      go (Some n) None = refl
      go (Some n) (Some c) = refl

  -- the line of a piece with these tokens
  pub spelled : (piece text : List ℕ) (v : Token) (l : Line) → IsUtf8 piece → text ≡ piece
      → tokens text ≡ tokens_of w d m v → plain_line w d m v ≡ Some l → line_spelled piece ≡ Some l
  unfolding line_spelled_by
  spelled piece text v l u same e = go (type_named w) (data_of (Token.number d)) (data_of v) refl refl refl
    where
      by_line : (t : ColumnType) (x y : Data) → type_named w ≡ Some t → data_of (Token.number d) ≡ Some x
          → data_of v ≡ Some y
          → (as_u32 x >>= λ d. typed_as t y >>= λ p. Some (call (recorded d m p.0 p.1))) ≡ Some l
          → line_spelled piece ≡ Some l
      by_line t x y et ex ey el =
          ap (λ o. o >>= as_list >>= line_among shapes)
          (read-some piece (four x y) u (plain_read piece v x y (ap tokens (sym same) ∙ e) ex ey))
          ∙ line_of_value (string w) (x ∷ string m ∷ y ∷ []) t et ∙ same_line t x y ∙ el

      go : (ot : Option ColumnType) (ox oy : Option Data) → type_named w ≡ ot → data_of (Token.number d) ≡ ox → data_of v ≡ oy
          → (ot >>= λ t. (ox >>= as_u32) >>= λ d. (oy >>= typed_as t) >>= λ p. Some (call (recorded d m p.0 p.1)))
          ≡ Some l → line_spelled piece ≡ Some l
      go None ox oy et ex ey el = cc
      go (Some t) None oy et ex ey el = cc
      go (Some t) (Some x) None et ex ey el = no (as_u32 x) el
        where
          no : (n : Option ℕ) → (n >>= λ d. nothing >>= λ p. Some (call (recorded d m p.0 p.1))) ≡ Some l → line_spelled piece ≡ Some l
          no None e = cc
          no (Some n) e = cc
      go (Some t) (Some x) (Some y) et ex ey el = by_line t x y et ex ey el
