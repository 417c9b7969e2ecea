-- Readers of the records of a text, of any numbers of fields.
use Rattle.std.specs.Prelude.{◌≡◌, ℕ, ◌+◌, Bool, true, false, List, [], ◌∷◌, unwrap_or, Option, Some}
use Rattle.std.specs.Borrow.{Bor}
use Rattle.csv.specs.Reading.{Ready, default_config, has_failed, is_flexible, reader_config, reader_state, reader_trim, records_from, source_of}
use Rattle.csv.specs.declared.reader.Reader.{Reader}
use Rattle.csv.specs.declared.reader.Trim.TheVariants as trim

-- a reader of a text in memory
abbrev pub TextReader : Type 0
TextReader = Reader (Bor (List ℕ))

-- what it has left, where it tells
abbrev pub text_left : TextReader → Option (List ℕ)
text_left rdr = source_of (λ s. Some s.now) rdr

-- It reads as the kit's reader does by its defaults, with no header row, but that records may have
-- any number of fields; and it tells what it has left.
pub record IsReading (rdr : TextReader) : Type 0 where
  pub ready : Ready rdr
  pub trim : reader_trim rdr ≡ trim.None
  pub flexible : is_flexible rdr ≡ true
  pub config : reader_config rdr ≡ default_config
  pub sound : has_failed rdr ≡ false
  pub text : List ℕ
  pub left : text_left rdr ≡ Some text

-- the records that it has left, no more than so many
unfoldable pub left_of : ℕ → TextReader → List (List (List ℕ))
left_of most rdr =
    records_from default_config most (reader_state rdr) (unwrap_or (text_left rdr) [])

-- A record of these fields was read, or none is left.
pub record Took (old new : TextReader) (fields : List (List ℕ)) : Type 0 where
  pub reading : IsReading new
  pub left : (most : ℕ) → left_of (most + 1) old ≡ fields ∷ left_of most new

abbrev pub ReadsRecord : TextReader → TextReader → List (List ℕ) → Bool → Type 0
ReadsRecord old new fields true = Took old new fields
ReadsRecord old new fields false = (most : ℕ) → left_of most old ≡ []
