-- What is written of ranges, and of numbers in them. States docs/FORMAT.md, section 5.
use Rattle.std.specs.Prelude.{◌≡◌, ℕ, ◌-◌, List, [], ◌∷◌, ◌++◌, length, map, replicate, Some, Result, OnOk}
use Rattle.std.specs.List.{flat_map}
use Rattle.std.specs.Int.{w64, to_le_bytes}
use Rattle.col_common.specs.Outside.{SeenSink}
use Rattle.col_common.specs.Serializing.{Serializes}
use Rattle.col_common.specs.VInt.{vint_bytes}
use Rattle.col_common.specs.declared.error.ColumnarError.{ColumnarError}
use Rattle.col_bits.specs.Packed.{packed_bytes, width}
use Rattle.col_model.specs.AddressList.{AddressFooter, code_count, values128}
use Rattle.col_compact.specs.Hits.{code_of}
use Rattle.col_compact.specs.Covers.{Trained}
use Rattle.col_compact.specs.Params.{footer_of}

-- how far each range starts above the end before it, and how far its end above its start
unfoldable pub pairs_of : ℕ → List (ℕ × ℕ) → List (ℕ × ℕ)
pairs_of before [] = []
pairs_of before (r ∷ rs) = (r.0 - before, r.1 - r.0) ∷ pairs_of r.1 rs

-- the bytes of two numbers
abbrev pub pair_bytes : ℕ × ℕ → List ℕ
pair_bytes p = vint_bytes p.0 ++ vint_bytes p.1

-- the bytes of ranges
abbrev pub ranges_bytes : List (ℕ × ℕ) → List ℕ
ranges_bytes rs = vint_bytes (length rs) ++ flat_map pair_bytes (pairs_of 0 rs)

-- the eight bytes at the front of a footer
unfoldable pub flags_bytes : List ℕ
flags_bytes = replicate 8 0

-- the bytes of a footer
abbrev pub footer_bytes : AddressFooter → List ℕ
footer_bytes f =
    flags_bytes ++ (vint_bytes f.least ++ (vint_bytes f.greatest
    ++ (vint_bytes f.count ++ (f.code_width ∷ ranges_bytes f.ranges))))

-- the footer of ranges that were trained on a list
abbrev pub trained_footer : Trained → AddressFooter
trained_footer t = footer_of t.ranges t.count (width (code_count t.ranges))

-- the packed codes of numbers
abbrev pub codes_bytes : Trained → List ℕ → List ℕ
codes_bytes t xs = packed_bytes (width (code_count t.ranges)) (map (code_of t.ranges) xs)

-- the packed codes, the footer, and its length
abbrev pub coded_bytes : Trained → List ℕ → List ℕ
coded_bytes t xs =
    let footer = footer_bytes (trained_footer t) in
    (codes_bytes t xs ++ footer) ++ to_le_bytes w64 (length footer)

-- the same behind the count and the codec's byte
abbrev pub list_bytes : Trained → List ℕ → List ℕ
list_bytes t xs = vint_bytes t.count ++ (1 ∷ coded_bytes t xs)

-- Bytes were added that stand for the list, or a refusal has its cause.
abbrev pub SerializesList : SeenSink → SeenSink → Result (Unit {0}) ColumnarError → List ℕ → Type 0
SerializesList old new result xs =
    (bytes : List ℕ) × OnOk result (values128 bytes ≡ Some xs) × Serializes old new result bytes
