use Rattle.std.proofs.Common.{sym, ap, subst, ◌∙◌}
use Rattle.col_numbers.specs.Readers.{list_of}
use Rattle.col_model.specs.Index.{RowOffsets}
use Rattle.col_index.specs.Offsets.{AreOffsets}
use Rattle.col_index.proofs.CountLaws.{offset_counts-starts}
use Rattle.col_index.proofs.StartLemmas.{starts-below}
use Rattle.col_index.proofs.multivalued_index_v2.MultiValueIndexV2.start_index_column.Goals as goal

pub returns-clause-counts : goal.returns-clause-counts
returns-clause-counts c =
    ap (λ (o : RowOffsets). o.starts) c.self.view_is
    ∙ sym (offset_counts-starts c.args.self.now (subst AreOffsets c.self.view_is c.self.invariant))

pub returns-clause-fits : goal.returns-clause-fits
returns-clause-fits c = starts-below _ (list_of c.self.inside.start_index_column) c.self.invariant.starts
