use Rattle.std.proofs.Common.{◌≡◌, ◌≤◌, true, length}
use Rattle.std.specs.Prelude.{nat_le}
use Rattle.std.specs.List.{AllWithin}
use Rattle.col_compact.proofs.code_hints.codes_upto.Given as goal

abbrev pub invariant-loop-tried : goal.invariant-loop-tried
invariant-loop-tried l = record {
  within : l.upto ≤ length l.fn.ranges;
  below : AllWithin (λ m. nat_le m.compact_start l.fn.code ≡ true) l.fn.ranges 0 l.upto;
}
