use Rattle.col_csv_import.proofs.RecorderLemmas.{numbers-new, numbers-refuse_none}
use Rattle.col_csv_import.proofs.recorder.numbers.Goals as goal

pub returns-in_err-force_numerical_type-clause-err : goal.returns-in_err-force_numerical_type-clause-err
returns-in_err-force_numerical_type-clause-err c =
    absurd (numbers-refuse_none c.args.numerical_type c.new-column.result c.force_numerical_type.new.self _ c.new-column.ensures
    c.in_err-force_numerical_type.ensures)

pub returns-clause-ok : goal.returns-clause-ok
returns-clause-ok c =
    numbers-new c.args.numerical_type c.new-column.result c.force_numerical_type.new.self _ c.new-column.ensures
    c.in_ok-force_numerical_type.ensures
