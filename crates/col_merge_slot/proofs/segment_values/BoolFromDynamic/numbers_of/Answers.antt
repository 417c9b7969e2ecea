use Rattle.std.proofs.Common.{◌∙◌, ap, is_some}
use Rattle.col_merge_slot.proofs.ReadLemmas.{is-bool}
use Rattle.col_merge_slot.proofs.segment_values.BoolFromDynamic.numbers_of.Goals as goal

pub returns-clause-read : goal.returns-clause-read
returns-clause-read c = ap is_some c.into_bool.ensures ∙ is-bool c.args.column
