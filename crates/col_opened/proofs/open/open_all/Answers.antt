use Rattle.std.proofs.Common.{◌∙◌}
use Rattle.col_opened.proofs.TableLemmas.{answers-all}
use Rattle.col_opened.proofs.open.open_all.Goals as goal

pub returns-clause-answer : goal.returns-clause-answer
returns-clause-answer g c =
    let r = c.args.reader.now in
    answers-all r.keys c.deref.result.now c.num_columns.result
    (c.deref.ensures.value ∙ c.in_ok-wanted.ensures.items_if_clones_equal (λ y e. e))
    c.num_columns.ensures r.file c.open_where.new.reader.file c.file_is_whole.ensures.told c.open_where.result
    c.open_where.ensures.answer
