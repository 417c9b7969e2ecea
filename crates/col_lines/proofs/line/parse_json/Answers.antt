use Rattle.std.proofs.Common.{sym}
use Rattle.std.proofs.lemmas.Bool.{iff_false}
use Rattle.serde_json.specs.View.{view}
use Rattle.col_program.proofs.ScriptLaws.{read-some, read-none}
use Rattle.col_lines.proofs.line.parse_json.Goals as goal

pub returns-in-Ok : goal.returns-in-Ok
returns-in-Ok c = sym (read-some c.args.piece.now (view c.in-Ok.value) c.in-Ok.ensures.ok.0 c.in-Ok.ensures.ok.1)

pub returns-else-is_memory : goal.returns-else-is_memory
returns-else-is_memory c = sym (read-none c.args.piece.now (c.in-Err.ensures.err (iff_false c.is_memory.ensures c.if-is_memory.false)))
