use Rattle.std.proofs.Common.{map, false, arith}
use Rattle.std.proofs.lemmas.List.{length-map}
use Rattle.col_program.proofs.ReportLaws.{Prints-none}
use Rattle.col_report.specs.Checked.{listed_name}
use Rattle.col_report.proofs.CheckLemmas.{mapped-at, told-more}
use Rattle.col_report.proofs.check.push_entries.Goals as goal

pub loop-place-init : goal.loop-place-init
loop-place-init c = Prints-none _

pub loop-place-preserved : goal.loop-place-preserved
loop-place-preserved c =
    let within = c.loop-place-test.true in
    let many = length-map c.args.columns.now listed_name in
    told-more _ _ _ (map listed_name c.args.columns.now) c.args.whole.now c.loop-place.place
    (listed_name c.index-columns-place.result) false (omega (arith, within, many)) (omega (arith, within, c.requires))
    (mapped-at listed_name c.args.columns.now c.loop-place.place c.index-columns-place.result
    (omega (arith, within)) c.index-columns-place.is)
    c.loop-place.invariant c.in_ok-push_entry.ensures
