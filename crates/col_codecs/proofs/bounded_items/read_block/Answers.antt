use Rattle.std.proofs.Common.{◌∙◌, ◌++◌, ap, subst, arith, length, map}
use Rattle.std.specs.List.{range_with_len}
use Rattle.std.proofs.lemmas.List.FromFn.{length-map-range_with_len}
use Rattle.col_codecs.specs.ColumnStats.{collected_of}
use Rattle.col_codecs.specs.BlockBounds.{AreBounds}
use Rattle.col_codecs.proofs.BoundedItemLemmas.{numbers-joined}
use Rattle.col_codecs.proofs.bounded_items.read_block.Goals as goal

pub collect_bounded-requires-clause-room : goal.collect_bounded-requires-clause-room
collect_bounded-requires-clause-room g c =
    let f = g.I.BoundedItems.item c.args.items.now in
    (map f (range_with_len 0 c.args.from), c.requires.collected, omega (arith, length-map-range_with_len f 0 c.args.from))

pub returns-clause-collected : goal.returns-clause-collected
returns-clause-collected g c =
    let a = c.args in
    let f = g.I.BoundedItems.item a.items.now in
    let front = map f (range_with_len 0 a.from) in
    c.collect_bounded.ensures front c.requires.collected
    ∙ ap (λ r. collected_of (front ++ r)) c.read.ensures
    ∙ ap collected_of (numbers-joined f a.from (length a.block.now))

pub returns-clause-bounds : goal.returns-clause-bounds
returns-clause-bounds g c = subst (AreBounds c.bounds_read-bounds.result) c.read.ensures c.bounds_read-bounds.ensures
