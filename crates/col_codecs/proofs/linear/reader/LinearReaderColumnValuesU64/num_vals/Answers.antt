use Rattle.std.proofs.Common.{sym}
use Rattle.col_model.proofs.ItemLaws.{length-linear_items}
use Rattle.col_codecs.specs.Line.{with_width}
use Rattle.col_codecs.proofs.linear.reader.LinearReaderColumnValuesU64.num_vals.Goals as goal

pub returns : goal.returns
returns c =
    let r = c.self.inside in rw (← c.self.view_is)
    (sym (length-linear_items (with_width r.line r.bit_unpacker) r.data r.stats.num_rows))
