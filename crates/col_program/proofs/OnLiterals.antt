-- What is computed on the literal bytes of scripts: the definitions that a test unfolds.
use Rattle.std.specs.Prelude.{⊤}
use Rattle.hex.specs.Hex.{encode_with, decode_pairs}
use Rattle.serde_json.proofs.OnLiterals.{serde_json_on_literals}
use Rattle.col_model.proofs.OnLiterals.{col_model_on_literals}
use Rattle.col_model.specs.Facets.{counts_of_cells}
use Rattle.col_program.specs.Queries.{answer_of}
use Rattle.col_program.specs.Script.{line_spelled_by, script_of}
use Rattle.col_program.specs.Report.{report_of}
use Rattle.col_program.specs.Check.{check_report}
use Rattle.col_program.specs.Outcome.{outcome_of_merge, outcome_of_script, outcome}
use Rattle.col_program.specs.GenScript.{gen_script}

-- what a proof unfolds to compute what the program answers
unfoldable pub col_program_on_literals : ⊤
unfolding encode_with decode_pairs serde_json_on_literals col_model_on_literals line_spelled_by script_of report_of check_report
    outcome_of_merge outcome_of_script outcome gen_script counts_of_cells answer_of
col_program_on_literals = tt
