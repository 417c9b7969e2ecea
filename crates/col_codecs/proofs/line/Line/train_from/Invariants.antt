use Rattle.std.proofs.Common.{◌≡◌, fold, min, length}
use Rattle.col_codecs.specs.Line.{distances}
use Rattle.col_codecs.proofs.line.Line.train_from.Given as goal

abbrev pub invariant-loop-pos : goal.invariant-loop-pos
invariant-loop-pos g l =
    g.I.Iterable.stands l.items l.at
    × (fold min l.least (distances l.slope l.mark (g.I.Iterable.left l.items l.at))
    ≡ fold min 0xffff_ffff_ffff_ffff (distances l.slope l.mark (g.I.Iterable.items l.items)))

abbrev pub decreases-loop-pos : goal.decreases-loop-pos
decreases-loop-pos g l = length (g.I.Iterable.left l.items l.at)
