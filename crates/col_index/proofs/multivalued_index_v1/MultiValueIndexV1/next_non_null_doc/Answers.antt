use Rattle.std.proofs.Common.{sym, ◌∙◌}
use Rattle.col_common.specs.Ascending.{differences}
use Rattle.col_index.proofs.OldRowLemmas.{valued_next}
use Rattle.col_index.proofs.multivalued_index_v1.MultiValueIndexV1.next_non_null_doc.Goals as goal

pub returns-in-Some : goal.returns-in-Some
returns-in-Some c = c.in-Some.ensures.row ∙ sym (valued_next (differences c.args.self.now) c.args.target)

pub returns-in-None : goal.returns-in-None
returns-in-None c = c.in-None.ensures.row ∙ sym (valued_next (differences c.args.self.now) c.args.target)
