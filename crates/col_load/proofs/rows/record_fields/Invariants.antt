use Rattle.std.proofs.Common.{◌≡◌}
use Rattle.col_load.proofs.RecordLemmas.{rest_after}
use Rattle.col_load.proofs.rows.record_fields.Given as goal

-- what is left makes of the columns what all make of the first ones
abbrev pub invariant-loop-field : goal.invariant-loop-field
invariant-loop-field l = rest_after l.initial.columns l.doc l.fields 0 ≡ rest_after l.columns l.doc l.fields l.field-index
