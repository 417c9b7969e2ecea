-- Headings, and the keys that they spell.
use Rattle.std.proofs.Common.{◌≡◌, ℕ, suc, ◌+◌, ◌==◌, true, not, cond, List, [], ◌∷◌, ◌++◌, length, take, drop, get_or, bytes_eq, Some, None, refl, sym, ◌∙◌, ap, ap₂, subst, arith}
use Rattle.std.specs.Prelude.{Option, nat_lt, position}
use Rattle.std.specs.List.{list_all, position_or_len}
use Rattle.std.proofs.lemmas.Bool.{and_parts, eqb-true, lt-ltb}
use Rattle.std.proofs.lemmas.List.{drop_more, length-append, take-append-drop, take_at}
use Rattle.std.proofs.lemmas.List.Quantifiers.{position-Some}
use Rattle.col_common.specs.Reading.{◌>>=◌, only_if}
use Rattle.col_model.specs.ColumnType.{ColumnType, type_name}
use Rattle.col_model.specs.ColumnType as types
use Rattle.col_model.specs.Keys.{Key, is_name}
use Rattle.col_model.proofs.DecodedNumbers.{if-of, step-of}
use Rattle.col_model.proofs.ListLaws.{find-passes}
use Rattle.col_model.proofs.OrderingLaws.{bytes_eq-true}
use Rattle.col_program.specs.Values.{all_types, type_named}
use Rattle.col_csv.specs.Csv.{colon}
use Rattle.col_csv.specs.CsvTable.{key_of_heading}

-- a key as a heading spells it
abbrev pub heading_text : Key → List ℕ
heading_text k = type_name k.column_type ++ colon ∷ k.name

-- the word of a type has no colon
no-colon : (t : ColumnType) → list_all (λ b. not (b == colon)) (type_name t) ≡ true
no-colon types.i64 = refl
no-colon types.u64 = refl
no-colon types.bytes = refl
no-colon types.str = refl
no-colon types.bool = refl
no-colon types.ip = refl
no-colon types.datetime = refl

-- and leads back to the type
named-again : (t : ColumnType) → type_named (type_name t) ≡ Some t
named-again types.i64 = refl
named-again types.u64 = refl
named-again types.bytes = refl
named-again types.str = refl
named-again types.bool = refl
named-again types.ip = refl
named-again types.datetime = refl

-- the colon behind a word without one is the first
first-colon : (w name : List ℕ) → list_all (λ b. not (b == colon)) w ≡ true
    → position_or_len (λ b. b == colon) (w ++ colon ∷ name) ≡ length w
first-colon [] name e = refl
first-colon (b ∷ w) name e =
    let parts = and_parts (not (b == colon)) (list_all (λ b. not (b == colon)) w) e in
    ap (λ c. cond c (1 + position_or_len (λ b. b == colon) (w ++ colon ∷ name)) 0) parts.0
    ∙ ap (λ n. 1 + n) (first-colon w name parts.1)
    ∙ (let e : 1 + length w ≡ suc (length w) = omega arith in e)

-- so a heading is cut there
found-colon : (w name : List ℕ) → list_all (λ b. not (b == colon)) w ≡ true
    → position (λ b. b == colon) (w ++ colon ∷ name) ≡ Some (length w)
found-colon w name e =
    let long = length-append w (colon ∷ name) in
    ap (λ n. cond (nat_lt n (length (w ++ colon ∷ name))) (Some n) None) (first-colon w name e)
    ∙ ap (λ b. cond b (Some (length w)) None) (lt-ltb (length w) (length (w ++ colon ∷ name)) (omega (arith, long)))

-- what stands behind a word and one byte
behind-word : (w : List ℕ) (b : ℕ) (rest : List ℕ) → drop (length w + 1) (w ++ b ∷ rest) ≡ rest
behind-word [] b rest = refl
behind-word (c ∷ w) b rest =
    let step : suc (length w) + 1 ≡ suc (length w + 1) = omega arith in
    ap (λ n. drop n (c ∷ (w ++ b ∷ rest))) step ∙ behind-word w b rest

-- the key of a word and a name
abbrev key_by : List ℕ → List ℕ → Option Key
key_by w name = type_named w >>= λ t. only_if (is_name name) (record { name = name; column_type = t })

-- a heading leads back to its key
pub key-again : (k : Key) → is_name k.name ≡ true → key_of_heading (heading_text k) ≡ Some k
key-again k h =
    let w = type_name k.column_type in
    ap (λ o. o >>= λ i. key_by (take i (heading_text k)) (drop (i + 1) (heading_text k)))
    (found-colon w k.name (no-colon k.column_type))
    ∙ ap₂ key_by (take_at w (colon ∷ k.name) (length w) refl) (behind-word w colon k.name)
    ∙ ap (λ o. o >>= λ t. only_if (is_name k.name) (record { name = k.name; column_type = t })) (named-again k.column_type)
    ∙ ap (λ b. only_if b k) h

-- a heading that spells a key
pub record IsHeadingOf (s : List ℕ) (k : Key) : Type 0 where
  pub spells : s ≡ heading_text k
  pub named : is_name k.name ≡ true

-- a heading that leads to a key spells it
pub heading-is : (s : List ℕ) (k : Key) → key_of_heading s ≡ Some k → IsHeadingOf s k
heading-is s k e =
    let a = step-of (position (λ b. b == colon) s) (λ i. key_by (take i s) (drop (i + 1) s)) k e in
    let i = a.x in
    let name = drop (i + 1) s in
    let b = step-of (type_named (take i s)) (λ t. only_if (is_name name) (record { name = name; column_type = t })) k a.rest in
    let t = b.x in
    let made : Key = record { name = name; column_type = t } in
    let tested = if-of (is_name name) made k b.rest in
    let at = position-Some (λ b. b == colon) s i 0 a.first in
    let word = bytes_eq-true (type_name t) (take i s) (find-passes (λ t. bytes_eq (type_name t) (take i s)) all_types t b.first) in
    subst (IsHeadingOf s) tested.1 (record {
      spells = sym (take-append-drop i s)
          ∙ ap₂ (λ (x y : List ℕ). x ++ y) (sym word) (drop_more s i 0 at.0 ∙ ap (λ b. b ∷ name) (eqb-true (get_or s i 0) colon at.1));
      named = tested.0;
    })
