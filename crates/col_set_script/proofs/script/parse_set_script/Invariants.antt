use Rattle.std.proofs.Common.{◌≡◌, ◌+◌, length, map, option_map}
use Rattle.std.specs.Option.{option_map_or}
use Rattle.col_script.specs.Scripts.{pieces_left}
use Rattle.col_set_script.specs.SetScripts.{set_script_of}
use Rattle.col_set_script.specs.Steps.{filled_step}
use Rattle.col_set_script.specs.Drafts.{draft_parts, steps_behind}
use Rattle.col_set_script.proofs.script.parse_set_script.Given as goal

abbrev pub invariant-lines : goal.invariant-lines
invariant-lines l =
    steps_behind (draft_parts l.draft) (pieces_left l.rest) ≡ option_map (map filled_step) (set_script_of l.fn.bytes)

abbrev pub decreases-lines : goal.decreases-lines
decreases-lines l = option_map_or (λ bytes. length bytes.now + 1) l.rest 0
