use Rattle.std.proofs.Common.{◌∙◌, arith}
use Rattle.col_index.proofs.OldRowLemmas.{old-start_least}
use Rattle.col_index.proofs.multivalued_index_v1.MultiValueIndexV1.start_of.Goals as goal

pub returns : goal.returns
returns c =
    c.offset_at.ensures
    ∙ old-start_least c.args.self.now c.offsets_never_fall.ensures c.args.doc_id c.min.result
    (omega (arith, c.min.ensures, c.num_docs.ensures))
