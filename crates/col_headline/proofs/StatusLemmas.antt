-- The statuses of refusals.
use Rattle.std.proofs.Common.{◌≡◌, ◌≤◌, refl, arith}
use Rattle.col_common.specs.Refused.{code_of}
use Rattle.col_model.specs.Refusal.{Refusal, status_of, invalid_data, bad_order, bad_name, required_conflict, cannot_coerce, numerical_conflict, too_large, forced_type, doc_order, doc_out_of_range, tie_breaker_start}
use Rattle.col_writer_columns.specs.Answers.{answer_of}

-- an answer has the status of the refusal that it is
pub code-answer : (r : Refusal) → code_of (answer_of r) ≡ status_of r
code-answer invalid_data = refl
code-answer bad_order = refl
code-answer bad_name = refl
code-answer required_conflict = refl
code-answer cannot_coerce = refl
code-answer numerical_conflict = refl
code-answer too_large = refl
code-answer forced_type = refl
code-answer doc_order = refl
code-answer doc_out_of_range = refl
code-answer tie_breaker_start = refl

-- refusals of the definitions have statuses from 6 to 17
pub status-bounds : (r : Refusal) → (6 ≤ status_of r) × (status_of r ≤ 17)
status-bounds invalid_data = (omega arith, omega arith)
status-bounds bad_order = (omega arith, omega arith)
status-bounds bad_name = (omega arith, omega arith)
status-bounds required_conflict = (omega arith, omega arith)
status-bounds cannot_coerce = (omega arith, omega arith)
status-bounds numerical_conflict = (omega arith, omega arith)
status-bounds too_large = (omega arith, omega arith)
status-bounds forced_type = (omega arith, omega arith)
status-bounds doc_order = (omega arith, omega arith)
status-bounds doc_out_of_range = (omega arith, omega arith)
status-bounds tie_breaker_start = (omega arith, omega arith)
