use Rattle.std.proofs.Common.{ℕ, ◌∙◌, ap}
use Rattle.std.specs.Prelude.{◌==◌}
use Rattle.std.specs.List.{slice_split}
use Rattle.col_script.specs.Scripts.{summary_behind}
use Rattle.col_script.proofs.TakeLemmas.{begins}
use Rattle.col_script.proofs.script.parse_script.Goals as goal

pub lines-init : goal.lines-init
lines-init c =
    ap (λ p. summary_behind p (slice_split (λ (b : ℕ). b == 10) c.args.bytes.now)) c.new-draft.ensures
    ∙ begins c.args.bytes.now
