use Rattle.std.proofs.Common.{◌∙◌}
use Rattle.std.specs.List.{list_any}
use Rattle.col_dynamic.specs.Dynamic.{content_of}
use Rattle.col_model.specs.Lookup.{is_between, row_of}
use Rattle.col_program.specs.Queries.{cell_of}
use Rattle.col_query.proofs.FindLemmas.{looked_up}
use Rattle.col_query.proofs.find.docs_between.Goals as goal
use Rattle.col_questions.specs.Steps.{end_of}

pub returns-in-Ok : goal.returns-in-Ok
returns-in-Ok c =
    λ long.
    let content = content_of c.args.column.now in
    let lo = cell_of (end_of c.args.lo.now) in
    let hi = cell_of (end_of c.args.hi.now) in
    c.from_list.ensures (λ d. list_any (is_between lo hi) (row_of content d))
    (c.in-Ok.ensures ∙ looked_up content lo hi c.args.num_docs long)
