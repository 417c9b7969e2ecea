use Rattle.std.proofs.Common.{◌++◌, [], ◌∷◌, ap, sym, ◌∙◌}
use Rattle.col_index.specs.MultiValues.{value_counts_of}
use Rattle.col_indexer.specs.Counted.{ends_behind}
use Rattle.col_indexer.proofs.CountedLemmas.{starts_of-ends}
use Rattle.col_indexer.proofs.stacked_lists.starts_of_index.Goals as goal

pub returns : goal.returns
returns c =
    let cs = value_counts_of c.args.index.now in
    c.in_ok-push_later_starts.ensures
    ∙ ap (λ items. items ++ ends_behind 0 cs)
    (c.in_ok-push.ensures.items ∙ ap (λ items. items ++ 0 ∷ []) c.in_ok-starts.ensures.items)
    ∙ sym (starts_of-ends cs)
