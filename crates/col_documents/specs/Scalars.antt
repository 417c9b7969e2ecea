-- The values of fields by their forms. States docs/RULES.md, Documents.
use Rattle.std.specs.Prelude.{ℕ, pos, Bool, List, Result, Ok, Err, if◌then◌else◌}
use Rattle.hex.specs.Hex.{decode_of}
use Rattle.col_model.specs.ColumnType as types
use Rattle.col_model.specs.Table as cells
use Rattle.col_documents.specs.Addresses.{address_of_text}
use Rattle.col_documents.specs.Numbers.{number_at, time_of_millis}
use Rattle.col_documents.specs.Times.{time_of_text}
use Rattle.col_documents.specs.Values.{Taken}
use Rattle.col_documents.specs.declared.form.Form.{Form}
use Rattle.col_documents.specs.declared.form.Form.TheVariants.{Plain, Date, Millis, Address, Digits, Decimal}
use Rattle.col_documents.specs.declared.refusal.Reason.TheVariants as reasons

-- true or false
abbrev pub flag : Bool → Taken
flag b = Ok (types.bool, cells.number (pos (if b then 1 else 0)))

-- the bytes that hexadecimal digits spell
abbrev pub decoded : {E : Type 0} → Result (List ℕ) E → Taken
decoded (Ok bytes) = Ok (types.bytes, cells.text bytes)
decoded (Err e) = Err reasons.Form

-- what a number is in a form
abbrev pub number_in : Form → List ℕ → Taken
number_in Plain s = number_at 0 s
number_in (Decimal scale) s = number_at scale s
number_in Millis s = time_of_millis s
number_in Date s = Err reasons.Form
number_in Address s = Err reasons.Form
number_in Digits s = Err reasons.Form

-- what a text is in a form
abbrev pub text_in : Form → List ℕ → Taken
text_in Plain s = Ok (types.str, cells.text s)
text_in Date s = time_of_text s
text_in Address s = address_of_text s
text_in Digits s = decoded (decode_of s)
text_in (Decimal scale) s = Err reasons.Form
text_in Millis s = Err reasons.Form

-- what true or false is in a form
abbrev pub flag_in : Form → Bool → Taken
flag_in Plain b = flag b
flag_in (Decimal scale) b = Err reasons.Form
flag_in Date b = Err reasons.Form
flag_in Millis b = Err reasons.Form
flag_in Address b = Err reasons.Form
flag_in Digits b = Err reasons.Form
