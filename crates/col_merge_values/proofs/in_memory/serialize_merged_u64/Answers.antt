use Rattle.std.proofs.Common.{IfSome, subst}
use Rattle.col_indexer.specs.Written.{index_of}
use Rattle.col_order.specs.Orders.{picks_of}
use Rattle.col_merge_values.specs.Picked.{ArePicked}
use Rattle.col_merge_values.proofs.PickedLemmas.{has-lists}
use Rattle.col_merge_values.proofs.in_memory.serialize_merged_u64.Goals as goal

pub with_lists-index-requires : goal.with_lists-index-requires
with_lists-index-requires g c =
    let m = c.args.column_values.now in
    let p = c.in-Some.picked in
    let picked = subst
    (λ o. IfSome o (λ q. ArePicked m.columns (picks_of m.order) q.rows.items q.starts.items q.values.items))
    c.in-Some.is c.in_ok-picked.ensures in
    rw (c.deref.ensures.value, c.deref-in-Some.ensures.value) (has-lists m (index_of c.args.column_index) p.rows.items
    p.starts.items p.values.items c.requires.index c.requires.merged picked)
