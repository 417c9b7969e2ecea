use Rattle.std.proofs.Common.{arith}
use Rattle.col_places.proofs.BitLemmas.{set-few, set-row}
use Rattle.col_places.proofs.bits.count_before.Goals as goal

pub overflow_add-result : goal.overflow_add-result
overflow_add-result c =
    let words = c.args.words.now in
    let row = c.args.row in
    omega (arith, set-row words row c.args.before c.requires.before, set-few words row, c.ranges.row.fits)

pub returns : goal.returns
returns c = set-row c.args.words.now c.args.row c.args.before c.requires.before
