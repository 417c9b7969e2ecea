use Rattle.std.proofs.Common.{◌∙◌}
use Rattle.col_writer_columns.proofs.FirstLemmas.{firsts-none}
use Rattle.col_writer_columns.proofs.sort_order.first_keys.Goals as goal

pub put_firsts-requires-clause-none : goal.put_firsts-requires-clause-none
put_firsts-requires-clause-none g c =
    firsts-none c.args.num_docs c.deref_mut.result.now
    (c.deref_mut.ensures.value ∙ c.in_ok-firsts.ensures.items_if_clones_equal (λ y h. h))
