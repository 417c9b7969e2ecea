-- Columns whose entries are sound.
use Rattle.std.specs.Prelude.{◌≡◌, ℕ, IsTrue, true, List}
use Rattle.std.specs.Str.{is_utf8}
use Rattle.col_model.specs.ColumnType.{ColumnType, has_terms}
use Rattle.col_model.specs.Category.{Category, category_of}
use Rattle.col_model.specs.Soundness.{IsSoundEntry}
use Rattle.col_model.specs.Written.{Entry}
use Rattle.col_writer_columns.specs.Columns.{text_entry}
use Rattle.col_writer_columns.specs.Texts.{RecordedTexts}

-- the entry is sound in the category, under each name that is UTF-8
abbrev pub IsSoundIn : Category → Entry → Type 0
IsSoundIn c e = (name : List ℕ) → IsTrue (is_utf8 name)
    → IsSoundEntry (record { name = name; category = c }, e)

-- texts are sound as str and as bytes
abbrev pub AreSoundTexts : RecordedTexts → Type 0
AreSoundTexts texts = (t : ColumnType) → has_terms t ≡ true
    → IsSoundIn (category_of t) (text_entry t texts)
