use Rattle.std.proofs.Common.{subst}
use Rattle.col_index.specs.Indexes.{shape_of}
use Rattle.col_index.specs.MultiValues.{value_counts_of}
use Rattle.col_index.specs.Offsets.{AreInside}
use Rattle.std.specs.Prelude.{sum}
use Rattle.col_index.proofs.SpreadLaws.{all_below}
use Rattle.col_index.proofs.column_index.ColumnIndex.select_batch_in_place.Goals as goal

pub select_batch_in_place-requires-in-Multivalued-clause-below : goal.select_batch_in_place-requires-in-Multivalued-clause-below
select_batch_in_place-requires-in-Multivalued-clause-below c =
    let ranks = c.args.rank_ids.now.items in
    all_below (sum (value_counts_of c.in-Multivalued.index)) ranks
    (subst (λ i. AreInside (shape_of i) ranks) c.in-Multivalued.is c.requires.inside)
