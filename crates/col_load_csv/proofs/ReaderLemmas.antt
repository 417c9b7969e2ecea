-- The records that a reader has left.
use Rattle.std.proofs.Common.{◌≡◌, ◌∙◌, ◌+◌, ◌<◌, ◌≤◌, ◌-◌, Bor, ℕ, zero, suc, Bool, true, false, cond, List, [], ◌∷◌, length, get_or, Some, None, refl, sym, ap, arith, inl}
use Rattle.std.specs.Prelude.{Option, unwrap_or}
use Rattle.csv.specs.Machine.{Read, next_record}
use Rattle.csv.specs.Records.{field_at}
use Rattle.csv.specs.Reading.{Reached, ReadRecord, default_config, has_failed, is_bom, is_flexible, reader_state, records, records_from, records_next, strip_bom, took_first}
use Rattle.csv.specs.declared.parser.State.{State}
use Rattle.csv.specs.declared.parser.State.TheVariants as st
use Rattle.csv.proofs.ReadFacts.{rows-end, rows-more}
use Rattle.csv.proofs.RecordFacts.{field-get}
use Rattle.col_load_csv.specs.Readers.{IsReading, ReadsRecord, TextReader, Took, left_of, text_left}

-- what a reader tells of the bytes left
abbrev rem : Bor (List ℕ) → Option (List ℕ)
rem s = Some s.now

-- ---- the start of a text

-- the records of a text whose reader has begun nothing
pub all_left : (rdr : TextReader) (text : List ℕ) → text_left rdr ≡ Some (strip_bom text) → reader_state rdr ≡ st.StartRecord
    → left_of (length (strip_bom text) + 1) rdr ≡ records default_config (strip_bom text)
unfolding left_of
all_left rdr text left start =
    ap (λ s. records_from default_config (length (strip_bom text) + 1) s (unwrap_or (text_left rdr) [])) start
    ∙ ap (λ o. records_from default_config (length (strip_bom text) + 1) st.StartRecord (unwrap_or o [])) left

-- three bytes that are a mark, or aren't
pub long_marked : (xs : List ℕ) → 3 ≤ length xs
    → length (strip_bom xs) ≡ cond (is_bom (get_or xs 0 0) (get_or xs 1 0) (get_or xs 2 0)) (length xs - 3) (length xs)
unfolding strip_bom
long_marked [] h = absurd (omega arith)
long_marked (a ∷ []) h = absurd (omega arith)
long_marked (a ∷ b ∷ []) h = absurd (omega arith)
long_marked (a ∷ b ∷ c ∷ rest) h = by (is_bom a b c)
  where
    by : (marked : Bool) → length (cond marked rest (a ∷ b ∷ c ∷ rest))
        ≡ cond marked (length (a ∷ b ∷ c ∷ rest) - 3) (length (a ∷ b ∷ c ∷ rest))
    by true = omega arith
    by false = refl

-- fewer bytes have none
pub short_marked : (xs : List ℕ) → length xs < 3 → length xs ≡ length (strip_bom xs)
unfolding strip_bom
short_marked [] h = refl
short_marked (a ∷ []) h = refl
short_marked (a ∷ b ∷ []) h = refl
short_marked (a ∷ b ∷ c ∷ rest) h = absurd (omega arith)

-- ---- one record

-- a record that is next
took-left : (old new : TextReader) (fields : List (List ℕ)) (xs ys : List ℕ) (p : Read) (most : ℕ) → text_left old ≡ Some xs
    → text_left new ≡ Some ys → next_record default_config (reader_state old) [] [] xs ≡ Some p → fields ≡ p.0
    → p.1 ≡ reader_state new → p.2 ≡ ys → left_of (most + 1) old ≡ fields ∷ left_of most new
unfolding left_of records_from
took-left old new fields xs ys p most left rest is same state behind =
    let next : most + 1 ≡ suc most = omega arith in
    let more = records_from default_config most in
    ap (λ n. records_from default_config n (reader_state old) (unwrap_or (text_left old) [])) next
    ∙ ap (λ o. records_next more (next_record default_config (reader_state old) [] [] (unwrap_or o []))) left
    ∙ ap (records_next more) is ∙ ap (λ f. f ∷ more p.1 p.2) (sym same) ∙ ap (λ s. fields ∷ more s p.2) state
    ∙ ap (λ zs. fields ∷ more (reader_state new) zs) behind
    ∙ ap (λ o. fields ∷ more (reader_state new) (unwrap_or o [])) (sym rest)

-- no record is next
none-left : (old : TextReader) (xs : List ℕ) → text_left old ≡ Some xs
    → next_record default_config (reader_state old) [] [] xs ≡ None → (most : ℕ) → left_of most old ≡ []
unfolding left_of records_from
none-left old xs left none zero = refl
none-left old xs left none (suc n) =
    let more = records_from default_config n in
    ap (λ o. records_next more (next_record default_config (reader_state old) [] [] (unwrap_or o []))) left
    ∙ ap (records_next more) none

-- none is left of none
pub no_more : (rdr : TextReader) → left_of 0 rdr ≡ []
unfolding left_of records_from
no_more rdr = refl

-- no record more was reached
reached-none : (s t : State) (xs ys : List ℕ) → Reached default_config s xs [] t ys → (s ≡ t) × (xs ≡ ys)
unfolding Reached
reached-none s t xs ys h = h

-- one record was
reached-one : (s t : State) (xs ys : List ℕ) (fields : List (List ℕ)) → Reached default_config s xs (fields ∷ []) t ys
    → (p : Read) × (next_record default_config s [] [] xs ≡ Some p) × (fields ≡ p.0) × (p.1 ≡ t) × (p.2 ≡ ys)
unfolding Reached
reached-one s t xs ys fields h =
    let w : (p : Read) × (next_record default_config s [] [] xs ≡ Some p) × (fields ≡ p.0) × Reached default_config p.1 p.2 [] t ys = h in
    let (state, rest) = reached-none w.0.1 t w.0.2 ys w.3 in (w.0, w.1, w.2, state, rest)

-- what a read answers
module _ (old new : TextReader) (fields : List (List ℕ)) (h : IsReading old) where
  some-read : ReadRecord rem old new true fields → took_first new ≡ true → is_flexible new ≡ is_flexible old
      → has_failed new ≡ has_failed old → Took old new fields
  unfolding Reached
  some-read r first flexible failed =
      let (ys, left, reached) =
      rows-more rem old new fields default_config (reader_state old) h.text h.text [] h.config h.left (refl, refl) r in
      let (p, is, same, state, rest) = reached-one (reader_state old) (reader_state new) h.text ys fields reached in
      record {
        reading = record {
          ready = inl first;
          trim = r.3 ∙ h.trim;
          flexible = flexible ∙ h.flexible;
          config = r.2 ∙ h.config;
          sound = failed ∙ h.sound;
          text = ys;
          left = left;
        };
        left = λ most. took-left old new fields h.text ys p most h.left left is same state rest;
      }

  none-read : ReadRecord rem old new false fields → (most : ℕ) → left_of most old ≡ []
  none-read r = none-left old h.text h.left (rows-end rem old new fields default_config h.text h.config h.left r)

  pub read_answered : (found : Bool) → ReadRecord rem old new found fields → took_first new ≡ true → is_flexible new ≡ is_flexible old
      → has_failed new ≡ has_failed old → ReadsRecord old new fields found
  read_answered true r first flexible failed = some-read r first flexible failed
  read_answered false r first flexible failed = none-read r

-- ---- records that were looked for

-- a record was found
pub found_some : (old new : TextReader) (fields : List (List ℕ)) (b : Bool) → b ≡ true → ReadsRecord old new fields b
    → Took old new fields
found_some old new fields true is r = r
found_some old new fields false is r = absurd (cc is)

-- ---- fields

-- a field that is there
pub field_some : (fields : List (List ℕ)) (i : ℕ) (x : List ℕ) → Some x ≡ field_at fields i → x ≡ get_or fields i []
field_some fields i x is = sym (field-get fields i x (sym is))

-- one that isn't is read as an empty one
pub field_none : (fields : List (List ℕ)) (i : ℕ) → None ≡ field_at fields i → [] ≡ get_or fields i []
unfolding field_at
field_none [] i is = refl
field_none (f ∷ fs) zero is = absurd (cc is)
field_none (f ∷ fs) (suc i) is = field_none fs i is
