use Rattle.std.proofs.Common.{◌≡◌, take, drop, length, ◌-◌, ◌≤◌}
use Rattle.json.specs.Print.{escape}
use Rattle.col_print.proofs.quoted.plain_end.Given as goal

abbrev pub invariant-loop-end : goal.invariant-loop-end
invariant-loop-end l = record {
  behind : l.start ≤ l.«end»;
  within : l.«end» ≤ length l.text;
  plain : escape (take (l.«end» - l.start) (drop l.start l.text)) ≡ take (l.«end» - l.start) (drop l.start l.text);
}

abbrev pub decreases-loop-end : goal.decreases-loop-end
decreases-loop-end l = length l.text - l.«end»
