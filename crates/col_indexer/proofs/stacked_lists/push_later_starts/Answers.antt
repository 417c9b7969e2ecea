use Rattle.std.proofs.Common.{◌≡◌, ◌++◌, subst}
use Rattle.std.specs.Prelude.{OnOk}
use Rattle.col_index.specs.MultiValues.{value_counts_of}
use Rattle.col_indexer.proofs.ChangeLemmas.{stored-ends, stored-few}
use Rattle.col_indexer.proofs.stacked_lists.push_later_starts.Goals as goal

pub push_changes-requires : goal.push_changes-requires
push_changes-requires c =
    stored-few c.args.before (value_counts_of c.args.index.now) _ c.get_start_index_column.ensures.counts c.requires

pub returns : goal.returns
returns c =
    subst (λ ends. OnOk c.push_changes.result (c.push_changes.new.starts.items ≡ c.args.starts.now.items ++ ends))
    (stored-ends c.args.before (value_counts_of c.args.index.now) _ c.get_start_index_column.ensures.counts)
    c.push_changes.ensures
