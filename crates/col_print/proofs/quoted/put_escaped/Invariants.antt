use Rattle.std.proofs.Common.{take, length, ◌-◌, ◌≤◌}
use Rattle.json.specs.Print.{escape}
use Rattle.col_print.specs.Puts.{Puts}
use Rattle.col_print.proofs.quoted.put_escaped.Given as goal

abbrev pub invariant-loop-start : goal.invariant-loop-start
invariant-loop-start g l = record {
  within : l.start ≤ length l.text;
  puts : Puts (g.O.Out.seen l.initial.out) (g.O.Out.seen l.out) (escape (take l.start l.text));
}

abbrev pub decreases-loop-start : goal.decreases-loop-start
decreases-loop-start g l = length l.text - l.start
