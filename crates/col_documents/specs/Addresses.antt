-- Addresses as texts. States docs/RULES.md, Documents.
use Rattle.std.specs.Prelude.{ℕ, pos, List, ◌∷◌, Option, Some, None, Ok, Err}
use Rattle.std.specs.Int.Digits.{number_from_digits}
use Rattle.std.specs.Net.Addr.{segments_of, octets_of}
use Rattle.std.specs.Net.Reader.{read_ipv4, read_ipv6, whole_value}
use Rattle.col_model.specs.ColumnType as types
use Rattle.col_model.specs.Table as cells
use Rattle.col_documents.specs.Values.{Taken}
use Rattle.col_documents.specs.declared.refusal.Reason.TheVariants as reasons

-- the address of eight segments of 16 bits
abbrev pub address_of : List ℕ → Taken
address_of segments =
    Ok (types.ip, cells.number (pos (number_from_digits 256 (octets_of segments))))

-- the segments of ::ffff:a.b.c.d
abbrev pub mapped : List ℕ → List ℕ
mapped octets = 0 ∷ 0 ∷ 0 ∷ 0 ∷ 0 ∷ 65535 ∷ segments_of octets

-- the address of four octets, or else of eight segments
abbrev pub address_of_either : Option (List ℕ) → Option (List ℕ) → Taken
address_of_either (Some octets) other = address_of (mapped octets)
address_of_either None (Some segments) = address_of segments
address_of_either None None = Err reasons.Form

-- the address that a text writes: four numbers with dots, or groups of hexadecimal digits with
-- colons, as std reads them
abbrev pub address_of_text : List ℕ → Taken
address_of_text s = address_of_either (whole_value (read_ipv4 s)) (whole_value (read_ipv6 s))
