use Rattle.std.proofs.Common.{◌≡◌, ◌+◌, length, option_map}
use Rattle.std.specs.Option.{option_map_or}
use Rattle.col_program.specs.Script.{script_of}
use Rattle.col_script.specs.Scripts.{draft_parts, summary, summary_behind, pieces_left}
use Rattle.col_script.proofs.script.parse_script.Given as goal

abbrev pub invariant-lines : goal.invariant-lines
invariant-lines l =
    summary_behind (draft_parts l.draft) (pieces_left l.rest) ≡ option_map summary (script_of l.fn.bytes)

abbrev pub decreases-lines : goal.decreases-lines
decreases-lines l = option_map_or (λ bytes. length bytes.now + 1) l.rest 0
