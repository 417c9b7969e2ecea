-- The entries of columns are sound.
use Rattle.std.proofs.Common.{◌≡◌, ◌<◌, ℕ, zero, suc, ◌-◌, ◌^◌, List, [], ◌∷◌, length, map, Bool, true, false, Option, Some, None, refl, sym, ap, subst, arith, eq-eqb}
use Rattle.std.specs.Prelude.{ℤ, pos, negsuc, int_le, int_lt, filter_map, slice_get, slice_index, unwrap_or}
use Rattle.std.specs.List.{list_all, AllByRecursion}
use Rattle.std.proofs.lemmas.Bool.{and_parts, and_from}
use Rattle.std.proofs.lemmas.Int.{ints}
use Rattle.std.proofs.lemmas.Option.{same_Some}
use Rattle.col_common.specs.Ascending.{AreBelow}
use Rattle.col_model.specs.ColumnType.{ColumnType, is_numerical, has_terms}
use Rattle.col_model.specs.ColumnType as types
use Rattle.col_model.specs.Category.{category_of, category_place}
use Rattle.col_model.specs.Category as categories
use Rattle.col_model.specs.Column.{signed_of}
use Rattle.col_model.specs.Limits.{is_of_type}
use Rattle.col_model.specs.NumericalType.{accepts_i64, accepts_u64}
use Rattle.col_model.specs.Sound.{are_bytes, has_bytes}
use Rattle.col_model.specs.Soundness.{is_of_forced, is_sound_record}
use Rattle.col_model.specs.Table.{Cell, number, text}
use Rattle.col_model.specs.Written.{Entry, recorded_number}
use Rattle.col_types.specs.Cells.{bool_cell, unsigned_cell}
use Rattle.col_types.specs.declared.numerical_type.NumericalType.TheVariants as kinds
use Rattle.col_writer_columns.specs.Columns.{records_of, forced_type_of, plain_entry}
use Rattle.col_writer_columns.specs.Compatible.{forced_of}
use Rattle.col_writer_columns.specs.Numerical.{numerical_records, numerical_entry, IsSummary, HaveNumberTypes}
use Rattle.col_writer_columns.specs.SoundEntries.{IsSoundIn, AreSoundTexts}
use Rattle.col_writer_columns.specs.Texts.{RecordedTexts, texts_by_id}
use Rattle.col_writer_columns.specs.Values.{stored_number, unsigned_of, time_cell}
use Rattle.col_writer_columns.specs.declared.plain_column_writer.PlainColumnWriter.{PlainColumnWriter}
use Rattle.col_writer_columns.specs.declared.compatible_types.CompatibleNumericalTypes.{CompatibleNumericalTypes}
use Rattle.col_writer_columns.specs.declared.compatible_types.CompatibleNumericalTypes.TheVariants.{Dynamic, StaticType}

-- the items of a list that is read by places
pub fit-all : (limit : ℕ) (xs : List ℕ) → ((k : ℕ) → slice_index xs k < limit) → AreBelow limit xs
fit-all limit [] f = tt
fit-all limit (x ∷ xs) f = (f 0, fit-all limit xs (λ k. f (suc k)))

-- ---- columns of one type

-- a cell of the type, which may be forced
one-sound : (t : ColumnType) (forced : Bool) (d : ℕ) (c : Cell) → is_of_type t c ≡ true → has_bytes c ≡ true
    → is_sound_record (category_of t) (forced_type_of t forced) (record { doc = d; recorded_type = t; cell = c })
    ≡ true
one-sound t forced d c e h =
    and_from _ _ (and_from _ _
    (and_from _ _ (eq-eqb (category_place (category_of t)) (category_place (category_of t)) refl) e) (by forced)) h
  where
    by : (b : Bool) → is_of_forced (forced_type_of t b) c ≡ true
    by true = e
    by false = refl

-- a cell of the type, whose texts are bytes
abbrev IsSoundCell : ColumnType → Cell → Type 0
IsSoundCell t c = (is_of_type t c ≡ true) × (has_bytes c ≡ true)

-- the values of a column, of which each has some property
records-sound : {X : Type 0} (t : ColumnType) (cell : X → Cell) (P : X → Type 0)
    → ((x : X) → P x → IsSoundCell t (cell x)) → (forced : Bool) (ps : List (ℕ × X))
    → AllByRecursion P (map (λ p. p.1) ps)
    → list_all (is_sound_record (category_of t) (forced_type_of t forced)) (records_of t cell ps) ≡ true
unfolding records_of
records-sound t cell P f forced [] all = refl
records-sound t cell P f forced (p ∷ ps) all =
    let own = f p.1 all.0 in
    and_from _ _ (one-sound t forced p.0 (cell p.1) own.0 own.1) (records-sound t cell P f forced ps all.1)

forced-within : (t s : ColumnType) (forced : Bool) → forced_type_of t forced ≡ Some s → category_of s ≡ category_of t
forced-within t s true e = ap category_of (sym (same_Some t s e))
forced-within t s false e = cc

all-any : {X : Type 0} (xs : List X) → AllByRecursion (λ _. Unit {0}) xs
all-any [] = tt
all-any (x ∷ xs) = (tt, all-any xs)

text-of-type : (t : ColumnType) (s : List ℕ) → has_terms t ≡ true → is_of_type t (text s) ≡ true
text-of-type types.bytes s e = refl
text-of-type types.str s e = refl
text-of-type types.i64 s e = cc
text-of-type types.u64 s e = cc
text-of-type types.bool s e = cc
text-of-type types.ip s e = cc
text-of-type types.datetime s e = cc

-- the text is bytes
abbrev pub IsByteText : List ℕ → Type 0
IsByteText s = are_bytes s ≡ true

term-bytes : (terms : List (List ℕ)) (id : ℕ) → list_all are_bytes terms ≡ true → IsByteText (unwrap_or (slice_get terms id) [])
term-bytes [] id e = refl
term-bytes (s ∷ terms) zero e = (and_parts (are_bytes s) (list_all are_bytes terms) e).0
term-bytes (s ∷ terms) (suc id) e = term-bytes terms id (and_parts (are_bytes s) (list_all are_bytes terms) e).1

-- the texts of ids are bytes where the terms are
pub texts-bytes : (terms : List (List ℕ)) (ps : List (ℕ × ℕ)) → list_all are_bytes terms ≡ true
    → AllByRecursion IsByteText (map (λ p. p.1) (texts_by_id terms ps))
unfolding texts_by_id
texts-bytes terms [] e = tt
texts-bytes terms (p ∷ ps) e = (term-bytes terms p.1 e, texts-bytes terms ps e)

-- texts
pub texts-sound : (texts : RecordedTexts) → AllByRecursion IsByteText (map (λ p. p.1) texts.values) → AreSoundTexts texts
texts-sound texts all t terms name utf8 = record {
  name = utf8;
  records = records-sound t text IsByteText (λ s e. (text-of-type t s terms, e)) texts.is_forced texts.values all;
  forced = λ s e. forced-within t s texts.is_forced e;
  tie_start = λ start e. cc;
}

-- other values
pub plain-sound : {X : Type 0} (t : ColumnType) (cell : X → Cell) (P : X → Type 0)
    → ((x : X) → P x → IsSoundCell t (cell x)) → (w : PlainColumnWriter X)
    → AllByRecursion P (map (λ p. p.1) w.column) → IsSoundIn (category_of t) (plain_entry t cell w)
plain-sound t cell P f w all name utf8 = record {
  name = utf8;
  records = records-sound t cell P f w.is_forced w.column all;
  forced = λ s e. forced-within t s w.is_forced e;
  tie_start = λ start e. cc;
}

bool-of-type : (b : Bool) → is_of_type types.bool (bool_cell b) ≡ true
bool-of-type true = refl
bool-of-type false = refl

bool-bytes : (b : Bool) → has_bytes (bool_cell b) ≡ true
bool-bytes true = refl
bool-bytes false = refl

ip-of-type : (n : ℕ) → n < 2 ^ 128 → is_of_type types.ip (unsigned_cell n) ≡ true
ip-of-type n h =
    let least : int_le (pos 0) (pos n) ≡ true = grind (arith, ints) in
    let most : int_lt (pos n) (pos (2 ^ 128)) ≡ true = grind (arith, ints) in
    and_from _ _ least most

signed-in : (code : ℕ) → code < 2 ^ 64 → is_of_type types.i64 (number (signed_of code)) ≡ true
signed-in code h =
    let least : int_le (negsuc (2 ^ 63 - 1)) (signed_of code) ≡ true = grind (arith, ints) in
    let most : int_lt (signed_of code) (pos (2 ^ 63)) ≡ true = grind (arith, ints) in
    and_from _ _ least most

-- the entry of a column of bools is sound
pub bools-sound : (w : PlainColumnWriter Bool) → IsSoundIn categories.bool (plain_entry types.bool bool_cell w)
bools-sound w = plain-sound types.bool bool_cell (λ _. Unit {0}) (λ b _. (bool-of-type b, bool-bytes b)) w (all-any _)

-- the entry of a column of addresses below 2 ^ 128 is sound
pub addresses-sound : (w : PlainColumnWriter ℕ) (ns : List ℕ) → ns ≡ map (λ p. p.1) w.column → AreBelow (2 ^ 128) ns
    → IsSoundIn categories.ip (plain_entry types.ip unsigned_cell w)
addresses-sound w ns is fit =
    plain-sound types.ip unsigned_cell (λ n. n < 2 ^ 128) (λ n h. (ip-of-type n h, refl)) w
    (subst (AreBelow (2 ^ 128)) is fit)

-- the entry of a column of points in time, in codes of 64 bits, is sound
pub times-sound : (w : PlainColumnWriter ℕ) (ns : List ℕ) → ns ≡ map (λ p. p.1) w.column → AreBelow (2 ^ 64) ns
    → IsSoundIn categories.datetime (plain_entry types.datetime time_cell w)
times-sound w ns is fit =
    plain-sound types.datetime time_cell (λ n. n < 2 ^ 64) (λ n h. (signed-in n h, refl)) w
    (subst (AreBelow (2 ^ 64)) is fit)

-- ---- numbers

unsigned-in : (code : ℕ) → is_of_type types.u64 (number (pos (unsigned_of code))) ≡ true
unsigned-in code =
    let few : unsigned_of code < 2 ^ 64 = omega arith in
    let least : int_le (pos 0) (pos (unsigned_of code)) ≡ true = grind (arith, ints) in
    let most : int_lt (pos (unsigned_of code)) (pos (2 ^ 64)) ≡ true = grind (arith, ints) in
    and_from _ _ least most

stored-in : (t : ColumnType) (code : ℕ) → is_numerical t ≡ true → code < 2 ^ 64
    → (category_of t ≡ categories.numerical) × (is_of_type t (number (stored_number t code)) ≡ true)
stored-in types.i64 code e h = (refl, signed-in code h)
stored-in types.u64 code e h = (refl, unsigned-in code)
stored-in types.bytes code e h = cc
stored-in types.str code e h = cc
stored-in types.bool code e h = cc
stored-in types.ip code e h = cc
stored-in types.datetime code e h = cc

-- a number that i64 holds, or u64
held-i64 : (t : ColumnType) (code : ℕ) → is_numerical t ≡ true → code < 2 ^ 64
    → accepts_i64 (t, stored_number t code) ≡ true → is_of_type types.i64 (number (stored_number t code)) ≡ true
held-i64 types.i64 code e h a = signed-in code h
held-i64 types.u64 code e h a =
    let least : int_le (negsuc (2 ^ 63 - 1)) (pos (unsigned_of code)) ≡ true = grind (arith, ints) in
    let most : int_lt (pos (unsigned_of code)) (pos (2 ^ 63)) ≡ true = grind (arith, ints) in
    and_from _ _ least most
held-i64 types.bytes code e h a = cc
held-i64 types.str code e h a = cc
held-i64 types.bool code e h a = cc
held-i64 types.ip code e h a = cc
held-i64 types.datetime code e h a = cc

held-u64 : (t : ColumnType) (code : ℕ) → is_numerical t ≡ true → code < 2 ^ 64
    → accepts_u64 (t, stored_number t code) ≡ true → is_of_type types.u64 (number (stored_number t code)) ≡ true
held-u64 types.u64 code e h a = unsigned-in code
held-u64 types.i64 code e h a =
    let most : int_lt (signed_of code) (pos (2 ^ 64)) ≡ true = grind (arith, ints) in
    and_from _ _ a most
held-u64 types.bytes code e h a = cc
held-u64 types.str code e h a = cc
held-u64 types.bool code e h a = cc
held-u64 types.ip code e h a = cc
held-u64 types.datetime code e h a = cc

-- the records of numbers that pass a test, by which each is of the forced type
numbers-sound : (forced : Option ColumnType) (test : ColumnType × ℤ → Bool)
    → ((t : ColumnType) (code : ℕ) → is_numerical t ≡ true → code < 2 ^ 64 → test (t, stored_number t code) ≡ true
    → is_of_forced forced (number (stored_number t code)) ≡ true)
    → (ts : List ColumnType) (ps : List (ℕ × ℕ)) → length ts ≡ length ps → list_all is_numerical ts ≡ true
    → AreBelow (2 ^ 64) (map (λ p. p.1) ps)
    → list_all test (filter_map recorded_number (numerical_records ts ps)) ≡ true
    → list_all (is_sound_record categories.numerical forced) (numerical_records ts ps) ≡ true
unfolding numerical_records
numbers-sound forced test f [] [] e h fit a = refl
numbers-sound forced test f [] (p ∷ ps) e h fit a = absurd (omega arith)
numbers-sound forced test f (t ∷ ts) [] e h fit a = absurd (omega arith)
numbers-sound forced test f (t ∷ ts) (p ∷ ps) e h fit a =
    let kinds = and_parts (is_numerical t) (list_all is_numerical ts) h in
    let held = and_parts (test (t, stored_number t p.1)) (list_all test (filter_map recorded_number (numerical_records ts ps))) a in
    let own = stored-in t p.1 kinds.0 fit.0 in
    and_from _ _ (and_from _ _ (and_from _ _
    (and_from _ _ (eq-eqb (category_place (category_of t)) 0 (ap category_place own.0)) own.1)
    (f t p.1 kinds.0 fit.0 held.0)) refl)
    (numbers-sound forced test f ts ps (omega arith) kinds.1 fit.1 held.1)

passes : {A : Type 0} (xs : List A) → list_all (λ _. true) xs ≡ true
passes [] = refl
passes (x ∷ xs) = passes xs

records-held : (a : CompatibleNumericalTypes) (ts : List ColumnType) (ps : List (ℕ × ℕ)) → length ts ≡ length ps
    → list_all is_numerical ts ≡ true → AreBelow (2 ^ 64) (map (λ p. p.1) ps)
    → IsSummary a (numerical_records ts ps)
    → list_all (is_sound_record categories.numerical (forced_of a)) (numerical_records ts ps) ≡ true
unfolding IsSummary
records-held (Dynamic i u) ts ps e h fit s =
    numbers-sound None (λ _. true) (λ t code n k p. refl) ts ps e h fit
    (passes (filter_map recorded_number (numerical_records ts ps)))
records-held (StaticType kinds.I64) ts ps e h fit s = numbers-sound (Some types.i64) accepts_i64 held-i64 ts ps e h fit s
records-held (StaticType kinds.U64) ts ps e h fit s = numbers-sound (Some types.u64) accepts_u64 held-u64 ts ps e h fit s

forced-numerical : (a : CompatibleNumericalTypes) (t : ColumnType) → forced_of a ≡ Some t → category_of t ≡ categories.numerical
forced-numerical (Dynamic i u) t e = cc
forced-numerical (StaticType kinds.I64) t e = ap category_of (sym (same_Some types.i64 t e))
forced-numerical (StaticType kinds.U64) t e = ap category_of (sym (same_Some types.u64 t e))

-- the entry of numbers with their types, in codes of 64 bits, is sound
pub entry-sound : (a : CompatibleNumericalTypes) (ts : List ColumnType) (ps : List (ℕ × ℕ)) (start : Option ℤ)
    (now : Entry) (codes : List ℕ) → HaveNumberTypes a ts ps start → numerical_entry a ts ps start ≡ now
    → list_all is_numerical ts ≡ true → codes ≡ map (λ p. p.1) ps → AreBelow (2 ^ 64) codes
    → IsSoundIn categories.numerical now
entry-sound a ts ps start now codes h is kinds are fit = subst (IsSoundIn categories.numerical) is (λ name utf8. record {
  name = utf8;
  records = records-held a ts ps h.many kinds (subst (AreBelow (2 ^ 64)) are fit) h.summary;
  forced = λ t e. forced-numerical a t e;
  tie_start = λ z e. refl;
})
