use Rattle.std.proofs.Common.{ap, Some}
use Rattle.col_common.specs.Memory.{Scheduled, file_of}
use Rattle.col_outcome.proofs.InputLemmas.{opened, unopened}
use Rattle.col_outcome.proofs.inputs.open_file.Goals as goal

pub returns : goal.returns
returns c =
    rw c.in_memory_alone.ensures (unopened c.args.bytes (file_of c.new-file.result)
    (file_of c.in-Err.field-0-0) c.in-Err.error c.in-Err.ensures.0
    (ap (λ (m : Scheduled). Some m.bytes) c.new-file.ensures))

pub returns-in-Ok : goal.returns-in-Ok
returns-in-Ok c =
    opened c.args.bytes (file_of c.new-file.result) c.in-Ok.reader c.in-Ok.ensures.0 c.in-Ok.ensures.1.told
    (ap (λ (m : Scheduled). Some m.bytes) c.new-file.ensures)
