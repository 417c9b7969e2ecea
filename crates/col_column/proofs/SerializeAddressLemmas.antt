-- Columns of addresses, as they are written.
use Rattle.std.proofs.Common.{◌≡◌, ℕ, ◌<◌, ◌^◌, true, List, [], ◌∷◌, length, Some, Result, Ok, Err, refl, sym, subst, arith}
use Rattle.std.specs.Int.{w64, to_le_bytes}
use Rattle.std.specs.List.{list_all}
use Rattle.col_common.specs.Outside.{SeenSink}
use Rattle.col_common.specs.Serializing.{Serializes}
use Rattle.col_common.specs.declared.error.ColumnarError.{ColumnarError}
use Rattle.col_compact.specs.Written.{SerializesList}
use Rattle.col_model.specs.Column.{is_stored}
use Rattle.col_model.specs.ColumnType as types
use Rattle.col_model.specs.Index.{shape}
use Rattle.col_model.specs.Spelling.{column_bytes}
use Rattle.col_model.specs.Version.{current_version}
use Rattle.col_column.specs.Columns.{IsCounted}
use Rattle.col_column.specs.Written.{SerializesBehind, SerializesRows}
use Rattle.col_indexer.specs.Spelling.{Index, index_bytes, index_shape}
use Rattle.col_column.proofs.SerializeNumberLemmas.{length-behind, column-written}
use Rattle.col_column.proofs.SerializeRowLemmas.{rows-read}

-- ---- numbers and the length behind them

-- numbers of 128 bits, and eight bytes of a length, are written one behind the other
pub addresses-written :
    (a b d : SeenSink) (end : Unit {0}) (result : Result (Unit {0}) ColumnarError) (len : ℕ) (xs bytes : List ℕ)
    → bytes ≡ to_le_bytes w64 len → SerializesList a b (Ok end) xs → Serializes b d result bytes
    → SerializesBehind a d result xs (to_le_bytes w64 len)
addresses-written a b d end (Ok done) len xs bytes e s rest =
    record { bytes = s.0; again = s.1; written = length-behind a b d end (Ok done) len s.0 bytes e s.2 rest }
addresses-written a b d end (Err e) len xs bytes same s rest =
    record { bytes = s.0; again = tt; written = length-behind a b d end (Err e) len s.0 bytes same s.2 rest }

-- ---- the index in front of them

addresses-stored : (xs : List ℕ) → list_all (is_stored types.ip) xs ≡ true
addresses-stored [] = refl
addresses-stored (x ∷ xs) = addresses-stored xs

-- an index, and numbers with its length behind them, are written as rows of addresses
pub rows-written : (a b d : SeenSink) (end : Unit {0}) (result : Result (Unit {0}) ColumnarError) (len n : ℕ)
    (i : Index) (xs : List ℕ) → len ≡ length (index_bytes i) → len < 2 ^ 64
    → shape (index_bytes i) current_version ≡ Some (index_shape i) → IsCounted (index_shape i) n → length xs ≡ n
    → Serializes a b (Ok end) (index_bytes i) → SerializesBehind b d result xs (to_le_bytes w64 len)
    → SerializesRows a d result types.ip (index_shape i) xs
rows-written a b d end (Ok done) len n i xs e short is counted long front rest =
    let below : length (index_bytes i) < 2 ^ 64 = omega arith in
    record {
      bytes = column_bytes (index_bytes i) rest.bytes;
      again =
          rows-read (index_bytes i) rest.bytes xs types.ip (index_shape i) below is
          (subst (IsCounted (index_shape i)) (sym long) counted) rest.again (addresses-stored xs);
      written = column-written a b d end (Ok done) len (index_bytes i) rest.bytes e front rest.written;
    }
rows-written a b d end (Err e) len n i xs same short is counted long front rest = record {
  bytes = column_bytes (index_bytes i) rest.bytes;
  again = tt;
  written = column-written a b d end (Err e) len (index_bytes i) rest.bytes same front rest.written;
}
