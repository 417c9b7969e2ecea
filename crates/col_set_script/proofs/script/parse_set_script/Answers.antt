use Rattle.std.proofs.Common.{ℕ, ◌∙◌, ap}
use Rattle.std.specs.Prelude.{◌==◌}
use Rattle.std.specs.List.{slice_split}
use Rattle.col_set_script.specs.Drafts.{steps_behind}
use Rattle.col_set_script.proofs.StepLemmas.{begins}
use Rattle.col_set_script.proofs.script.parse_set_script.Goals as goal

pub lines-init : goal.lines-init
lines-init c =
    ap (λ p. steps_behind p (slice_split (λ (b : ℕ). b == 10) c.args.bytes.now)) c.new-draft.ensures
    ∙ begins c.args.bytes.now
