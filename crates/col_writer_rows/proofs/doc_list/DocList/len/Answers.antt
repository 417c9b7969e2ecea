use Rattle.std.proofs.Common.{arith, ap, length}
use Rattle.col_writer_rows.proofs.DocumentLemmas.{length-dense_then}
use Rattle.col_writer_rows.proofs.doc_list.DocList.len.Goals as goal

pub returns : goal.returns
returns c =
    omega (
      arith,
      c.from.ensures,
      c.len.ensures,
      c.self.inside.others.ok.0,
      ap length c.self.view_is,
      length-dense_then c.self.inside.num_dense c.self.inside.others.items,
    )
