use Rattle.col_bits.specs.Packed.{ids_between}
use Rattle.col_codecs.specs.BoundedItems.{ids_by}
use Rattle.col_codecs.proofs.packed_items.PackedItemsBoundedItems.push_ids.Goals as goal

pub returns : goal.returns
unfolding ids_by ids_between
returns c = c.push_ids.ensures.ok
