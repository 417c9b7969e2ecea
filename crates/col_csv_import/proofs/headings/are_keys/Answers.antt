use Rattle.std.proofs.Common.{◌∙◌, ◌-◌, arith, sym}
use Rattle.col_csv_import.proofs.HeadingLemmas.{adjacent-done, adjacent-fails, headings-test, headings_rise}
use Rattle.col_csv_import.proofs.headings.are_keys.Goals as goal

pub returns-then-not-is_before : goal.returns-then-not-is_before
returns-then-not-is_before c =
    sym (adjacent-fails headings_rise c.args.headings.now (c.loop-place.place - 1) c.loop-place.place _ _ (omega arith)
    (omega arith) c.loop-place.invariant (sym c.is_before.ensures ∙ c.if-not-is_before.true))
    ∙ headings-test c.args.headings.now c.requires

pub returns : goal.returns
returns c =
    sym (adjacent-done headings_rise c.args.headings.now (c.loop-place.place - 1) (omega arith) c.loop-place.invariant)
    ∙ headings-test c.args.headings.now c.requires
