use Rattle.std.proofs.Common.{sym}
use Rattle.col_csv_fields.proofs.HeadingLemmas.{no-word}
use Rattle.col_csv_fields.proofs.heading.type_of.Goals as goal

pub returns-in-Err : goal.returns-in-Err
returns-in-Err c = sym (no-word c.args.word.now c.in-Err.ensures.cases.0)
