use Rattle.col_report.proofs.TextLemmas.{text-put, other-put}
use Rattle.col_report.proofs.term_cells.put_text.Goals as goal

pub returns-in-Ok : goal.returns-in-Ok
returns-in-Ok g c = text-put _ _ _ c.args.term.now c.in-Ok.ensures.cases.0 c.in-Ok.ensures.cases.1 c.put_quoted.ensures

pub returns-in-Err : goal.returns-in-Err
returns-in-Err g c = other-put _ _ c.args.term.now c.in-Err.ensures.cases.0 c.put_digits.ensures
