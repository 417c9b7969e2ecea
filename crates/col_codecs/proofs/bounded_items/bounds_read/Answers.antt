use Rattle.std.proofs.Common.{◌^◌, length, sym, subst}
use Rattle.col_common.specs.Ascending.{AreBelow}
use Rattle.col_codecs.proofs.BoundLemmas.{all_small}
use Rattle.col_codecs.proofs.bounded_items.bounds_read.Goals as goal

pub small_bounds_of-requires-clause-small : goal.small_bounds_of-requires-clause-small
small_bounds_of-requires-clause-small g c =
    let read = c.requires.read in
    subst (AreBelow (2 ^ 32)) (sym read.1) (all_small (g.I.BoundedItems.item c.args.items.now) read.0
    (length c.args.vals.now) (c.is_small.ensures c.if-is_small.true))
