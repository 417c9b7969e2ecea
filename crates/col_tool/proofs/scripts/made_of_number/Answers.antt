use Rattle.std.proofs.Common.{map, ap, ◌∙◌}
use Rattle.col_common.specs.Memory.{file_of}
use Rattle.col_tool.proofs.AnswerLemmas.{without-inputs, unread}
use Rattle.col_tool.proofs.scripts.made_of_number.Goals as goal

pub returns-clause-made : goal.returns-clause-made
returns-clause-made c =
    without-inputs (map file_of c.new-inputs.result.items) _ c.args.number c.made_of_bytes.result
    (ap (map file_of) c.new-inputs.ensures.items) (c.deref.ensures.value ∙ c.in_ok-script.ensures) c.made_of_bytes.ensures.made

pub returns-clause-no_read_fault : goal.returns-clause-no_read_fault
returns-clause-no_read_fault c =
    unread _ _ c.made_of_bytes.result (ap (map file_of) c.new-inputs.ensures.items) c.made_of_bytes.ensures.read_fault

pub returns-clause-no_invalid_data : goal.returns-clause-no_invalid_data
returns-clause-no_invalid_data c = c.made_of_bytes.ensures.inputs c.new-inputs.ensures.items
