use Rattle.std.proofs.Common.{◌≡◌, fold, min, drop}
use Rattle.std.specs.List.{enumerate_from}
use Rattle.col_codecs.specs.Line.{distances}
use Rattle.col_codecs.proofs.line.least_above.Given as goal

abbrev pub invariant-loop-y : goal.invariant-loop-y
invariant-loop-y l =
    (l.x ≡ l.y-index) × (fold min l.least (distances l.slope l.mark (enumerate_from l.x (drop l.x l.ys)))
    ≡ fold min 0xffff_ffff_ffff_ffff (distances l.slope l.mark (enumerate_from 0 l.ys)))
