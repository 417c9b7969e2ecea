use Rattle.std.proofs.Common.{◌<◌, ◌*◌, length, sym, ◌∙◌, arith}
use Rattle.col_places.proofs.ClearLemmas.{clear-set, clear-within}
use Rattle.col_places.proofs.DropLemmas.{drops-gone, drops-kept, drops-one}
use Rattle.col_places.proofs.dropping.drop_listed.Goals as goal
use Rattle.col_places.proofs.dropping.drop_listed.Goals.{then-not-is_set, then-is_listed, else-is_listed, else-not-is_set}

pub overflow_add-left : goal.overflow_add-left
overflow_add-left c =
    let at = c.loop-row in
    omega (arith, at.invariant.count, clear-set at.words at.row, c.loop-row-test.true, c.ranges.num_rows.fits)

pub overflow_add-place : goal.overflow_add-place
overflow_add-place c =
    let at = c.loop-row in
    let old = c.args.words.now in
    let n = c.args.num_rows in
    let within : at.row < 64 * length old = omega (arith, c.loop-row-test.true, c.requires.within) in
    let is = sym (at.invariant.same at.row (omega arith) within) ∙ sym c.if-not-is_set.ensures in
    omega (arith, at.invariant.next, clear-within old at.row n c.loop-row-test.true is, c.requires.room)

pub loop-row-preserved : goal.loop-row-preserved
loop-row-preserved c =
    let at = c.loop-row in
    let ids = c.args.ids.now in
    let first = c.args.first in
    let old = c.args.words.now in
    let within : at.row < 64 * length old = omega (arith, c.loop-row-test.true, c.requires.within) in
    elim c.if-not-is_set.branch [
      | then-not-is_set w ↦
          rw (w.words-is, w.place-is, w.left-is) (elim w.if-is_listed.branch [
            | then-is_listed v ↦
                rw (v.words-is, v.left-is)
                (drops-one ids first old at.row at.place at.left at.words at.invariant within v.set_bit.new.words
                (sym w.if-not-is_set.ensures) (sym v.if-is_listed.ensures) v.set_bit.auto.words v.set_bit.ensures.row
                v.set_bit.ensures.others)
            | else-is_listed v ↦
                rw (v.words-is, v.left-is)
                (drops-kept ids first old at.row at.place at.left at.words at.invariant within (sym w.if-not-is_set.ensures)
                (sym v.if-is_listed.ensures))
          ])
      | else-not-is_set w ↦
          rw (w.words-is, w.place-is, w.left-is)
          (drops-gone ids first old at.row at.place at.left at.words at.invariant within (sym w.if-not-is_set.ensures))
    ]
