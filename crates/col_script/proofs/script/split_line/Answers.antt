use Rattle.std.proofs.Common.{ℕ, sym}
use Rattle.std.specs.Prelude.{◌==◌}
use Rattle.col_script.proofs.PieceLemmas.{split-found, split-none}
use Rattle.col_script.proofs.script.split_line.Goals as goal

pub returns-in-Some-clause-pieces : goal.returns-in-Some-clause-pieces
returns-in-Some-clause-pieces c = split-found (λ (b : ℕ). b == 10) c.args.bytes.now c.in-Some.end (sym c.in-Some.ensures)

pub returns-in-None-clause-pieces : goal.returns-in-None-clause-pieces
returns-in-None-clause-pieces c = split-none (λ (b : ℕ). b == 10) c.args.bytes.now (sym c.in-None.ensures)
