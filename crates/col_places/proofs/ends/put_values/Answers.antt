use Rattle.std.proofs.Common.{◌∙◌}
use Rattle.col_dynamic.specs.Dynamic.{content_of}
use Rattle.col_program.specs.Queries.{cell_of}
use Rattle.col_questions.specs.Steps.{end_of}
use Rattle.col_query.proofs.FindLemmas.{looked_up}
use Rattle.col_places.proofs.ends.put_values.Goals as goal

pub returns-in-Ok : goal.returns-in-Ok
returns-in-Ok c =
    c.in-Ok.ensures
    ∙ looked_up (content_of c.args.column.now) (cell_of (end_of c.args.lo.now)) (cell_of (end_of c.args.hi.now)) c.args.num_rows
    c.requires.rows
