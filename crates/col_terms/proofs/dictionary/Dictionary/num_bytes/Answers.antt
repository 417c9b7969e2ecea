use Rattle.std.proofs.Common.{ap, ◌∙◌}
use Rattle.col_model.specs.Limits.{dictionary_length}
use Rattle.col_terms.proofs.TableLemmas.{table_length}
use Rattle.col_terms.proofs.dictionary.Dictionary.num_bytes.Goals as goal

pub returns : goal.returns
returns c =
    c.len.ensures.value ∙ table_length c.self.inside.bytes c.self.inside.num_terms c.self.invariant
    ∙ ap dictionary_length c.self.view_is
