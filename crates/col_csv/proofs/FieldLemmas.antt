-- What a text stands for, and the cells of a field.
use Rattle.std.proofs.Common.{◌≡◌, ℕ, suc, ◌+◌, ◌≤◌, ◌*◌, ◌==◌, true, ◌&&◌, pos, List, [], ◌∷◌, length, bytes_eq, Some, Ok, Err, refl, sym, ap, subst, arith}
use Rattle.std.specs.Prelude.{Result}
use Rattle.std.specs.List.{list_all}
use Rattle.std.specs.Result.{result_ok}
use Rattle.std.specs.Int.Digits.{number_from_digits}
use Rattle.std.proofs.lemmas.Bool.{and_parts, and_from, eqb-true}
use Rattle.std.proofs.lemmas.Option.{none-some, same_Some}
use Rattle.hex.specs.Hex.{IsBytes, decode_of}
use Rattle.hex.specs.declared.error.FromHexError.{FromHexError}
use Rattle.hex.proofs.HexLemmas.{decode_of-ok}
use Rattle.col_common.specs.Reading.{◌>>=◌, only_if}
use Rattle.col_model.specs.ColumnType.{ColumnType}
use Rattle.col_model.specs.ColumnType as types
use Rattle.col_model.specs.Limits.{is_of_type}
use Rattle.col_model.specs.Sound.{are_bytes, has_bytes}
use Rattle.col_model.specs.Table.{Cell, number, text}
use Rattle.col_model.proofs.DecodedColumns.{bytes-are}
use Rattle.col_model.proofs.DecodedNumbers.{if-of, step-of}
use Rattle.col_model.proofs.OrderingLaws.{bytes_eq-true}
use Rattle.col_csv.specs.Csv.{equals, field_of, value_text}
use Rattle.col_csv.specs.CsvTable.{cells_of_field, digit_bytes, spelled, value_of_text}
use Rattle.col_csv.proofs.ValueLemmas.{value-again}

-- a value that a text stands for: it is spelled, of the type, and has that text
pub record IsValueOf (t : ColumnType) (s : List ℕ) (c : Cell) : Type 0 where
  pub spells : spelled t s ≡ Some c
  pub of_type : is_of_type t c ≡ true
  pub text_is : value_text t c ≡ s

-- what a text stands for is such a value
pub value-is : (t : ColumnType) (s : List ℕ) (c : Cell) → value_of_text t s ≡ Some c → IsValueOf t s c
value-is t s c e =
    let found = step-of (spelled t s) (λ d. only_if (is_of_type t d && bytes_eq (value_text t d) s) d) c e in
    let d = found.x in
    let tested = if-of (is_of_type t d && bytes_eq (value_text t d) s) d c found.rest in
    let parts = and_parts (is_of_type t d) (bytes_eq (value_text t d) s) tested.0 in
    subst (IsValueOf t s) tested.1 (record {
      spells = found.first;
      of_type = parts.0;
      text_is = bytes_eq-true (value_text t d) s parts.1;
    })

-- cells that a field stands for: none, or one behind the mark
pub data AreCellsOf (t : ColumnType) : List ℕ → List Cell → Type 0 where
  nothing : AreCellsOf t [] []
  one : (s : List ℕ) (c : Cell) → IsValueOf t s c → AreCellsOf t (equals ∷ s) (c ∷ [])

-- what a field stands for is such cells
pub cells-are : (t : ColumnType) (field : List ℕ) (cells : List Cell) → cells_of_field t field ≡ Some cells
    → AreCellsOf t field cells
cells-are t [] cells e = subst (AreCellsOf t []) (same_Some [] cells e) nothing
cells-are t (mark ∷ s) cells e =
    let found = step-of (value_of_text t s) (λ c. only_if (mark == equals) (c ∷ [])) cells e in
    let tested = if-of (mark == equals) (found.x ∷ []) cells found.rest in
    subst (λ m. AreCellsOf t (m ∷ s) cells) (sym (eqb-true mark equals tested.0))
    (subst (AreCellsOf t (equals ∷ s)) tested.1 (one s found.x (value-is t s found.x found.first)))

-- the field of a row of at most one cell stands for that row
pub field-again : (t : ColumnType) (row : List Cell) → length row ≤ 1 → list_all (is_of_type t) row ≡ true
    → list_all has_bytes row ≡ true → cells_of_field t (field_of t row) ≡ Some row
field-again t [] few e h = refl
field-again t (c ∷ []) few e h =
    ap (λ o. o >>= λ c. only_if (equals == equals) (c ∷ []))
    (value-again t c (and_parts _ true e).0 (and_parts _ true h).0)
field-again t (c ∷ d ∷ row) few e h = absurd (omega arith)

-- and a field is that of the cells that it stands for
pub field-is : (t : ColumnType) (field : List ℕ) (cells : List Cell) → AreCellsOf t field cells → field_of t cells ≡ field
field-is t _ _ nothing = refl
field-is t _ _ (one s c v) = ap (λ s. equals ∷ s) v.text_is

-- cells of a field are few ..
pub field-few : (t : ColumnType) (field : List ℕ) (cells : List Cell) → AreCellsOf t field cells → length cells ≤ 1
field-few t _ _ nothing = omega arith
field-few t _ _ (one s c v) = omega arith

-- .. of the type ..
pub field-of_type : (t : ColumnType) (field : List ℕ) (cells : List Cell) → AreCellsOf t field cells
    → list_all (is_of_type t) cells ≡ true
field-of_type t _ _ nothing = refl
field-of_type t _ _ (one s c v) = and_from _ true v.of_type refl

-- by digits, a number of them for each byte
decoded-is : (s : List ℕ) (b : List ℕ) → digit_bytes s ≡ Some b → IsBytes b × (length s ≡ 2 * length b)
decoded-is s b e = by (decode_of s) refl e
  where
    by : (r : Result (List ℕ) FromHexError) → decode_of s ≡ r → result_ok r ≡ Some b → IsBytes b × (length s ≡ 2 * length b)
    by (Ok x) p q =
        let ok = decode_of-ok s x p in
        subst (λ x. IsBytes x × (length s ≡ 2 * length x)) (same_Some x b q) (ok.3, ok.2)
    by (Err x) p q = absurd (none-some b q)

-- how much a cell holds, with one for itself
abbrev pub weight : Cell → ℕ
weight (number z) = 1
weight (text s) = suc (length s)

-- how much cells hold
abbrev pub weights : List Cell → ℕ
weights [] = 0
weights (c ∷ cells) = weight c + weights cells

-- a cell of a text of so many bytes
abbrev IsHeld : ℕ → Cell → Type 0
IsHeld n c = (weight c ≤ suc n) × (has_bytes c ≡ true)

-- what a text spells holds no more than the text, and bytes where the text is of bytes
spelled-held : (t : ColumnType) (s : List ℕ) (c : Cell) → spelled t s ≡ Some c → are_bytes s ≡ true → IsHeld (length s) c
spelled-held types.i64 s c e h = subst (IsHeld (length s)) (same_Some _ c e) (omega arith, refl)
spelled-held types.u64 s c e h = subst (IsHeld (length s)) (same_Some _ c e) (omega arith, refl)
spelled-held types.datetime s c e h = subst (IsHeld (length s)) (same_Some _ c e) (omega arith, refl)
spelled-held types.bool s c e h = subst (IsHeld (length s)) (same_Some _ c e) (omega arith, refl)
spelled-held types.str s c e h = subst (IsHeld (length s)) (same_Some _ c e) (omega arith, h)
spelled-held types.ip s c e h =
    let d = step-of (digit_bytes s) (λ b. Some (number (pos (number_from_digits 256 b)))) c e in
    subst (IsHeld (length s)) (same_Some _ c d.rest) (omega arith, refl)
spelled-held types.bytes s c e h =
    let d = step-of (digit_bytes s) (λ b. Some (text b)) c e in
    let is = decoded-is s d.x d.first in
    let long = is.1 in
    subst (IsHeld (length s)) (same_Some _ c d.rest) (omega (arith, long), bytes-are d.x is.0)

-- cells of a field hold no more than the field ..
pub field-held : (t : ColumnType) (field : List ℕ) (cells : List Cell) → AreCellsOf t field cells → are_bytes field ≡ true
    → (weights cells ≤ length field) × (list_all has_bytes cells ≡ true)
field-held t _ _ nothing h = (omega arith, refl)
field-held t _ _ (one s c v) h =
    let held = spelled-held t s c v.spells h in
    let most = held.0 in
    (omega (arith, most), and_from _ true held.1 refl)
