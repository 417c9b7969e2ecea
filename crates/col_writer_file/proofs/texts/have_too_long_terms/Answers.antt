use Rattle.std.proofs.Common.{◌∙◌}
use Rattle.col_writer_file.proofs.TextEntryLemmas.{too-long}
use Rattle.col_writer_file.proofs.texts.have_too_long_terms.Goals as goal

pub returns : goal.returns
returns c = c.is_dictionary_too_long.ensures ∙ too-long c.parts.result.0.now c.parts.result.1.now c.args.column.now c.parts.ensures
