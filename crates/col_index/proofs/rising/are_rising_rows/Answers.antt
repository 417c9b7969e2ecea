use Rattle.std.proofs.Common.{◌∙◌, arith}
use Rattle.col_numbers.specs.Readers.{list_of}
use Rattle.col_index.proofs.SetLemmas.{rises_first, rises_taken}
use Rattle.col_index.proofs.rising.are_rising_rows.Goals as goal

pub loop-at-init : goal.loop-at-init
loop-at-init c = record { rest = rises_first c.args.num_rows (list_of c.args.rows.now) }

pub loop-at-preserved : goal.loop-at-preserved
loop-at-preserved c =
    let rows = list_of c.args.rows.now in
    let row = c.in-Some-rising_row in
    let taken = rises_taken c.args.num_rows c.loop-at.next rows c.loop-at.at (omega arith) row.row row.ensures in
    record { rest = c.loop-at.invariant.rest ∙ taken.rest }
