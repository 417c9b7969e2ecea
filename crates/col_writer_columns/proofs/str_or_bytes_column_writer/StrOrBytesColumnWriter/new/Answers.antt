use Rattle.std.proofs.Common.{false}
use Rattle.col_writer_columns.proofs.TextLemmas.{no_texts-again}
use Rattle.col_writer_columns.proofs.str_or_bytes_column_writer.StrOrBytesColumnWriter.new.Goals as goal

pub returns : goal.returns
returns c =
    λ i. record {
      values = (no_texts-again c.new.result c.new-2.result c.new.ensures c.new-2.ensures).0 i;
      is_forced = false;
      sorts = false;
    }
