use Rattle.std.proofs.Common.{◌-◌, ◌∙◌, arith, refl}
use Rattle.std.proofs.lemmas.Result.{on_ok_weaker}
use Rattle.col_codecs.proofs.BoundedItemLemmas.{block_skipped, block_taken}
use Rattle.col_codecs.proofs.bounded_items.push_block.Goals as goal

pub returns-then-is_outside : goal.returns-then-is_outside
returns-then-is_outside g c =
    let a = c.args in
    block_skipped a.bounds.now (g.I.BoundedItems.item a.items.now) a.low a.high a.ids.start
    (a.ids.«end» - a.ids.start) a.ids.«end» _ refl (omega arith) c.requires.block c.requires.enclosed
    a.hits.now.items (c.is_outside.ensures c.if-is_outside.true)

pub returns-then-is_inside : goal.returns-then-is_inside
returns-then-is_inside g c =
    let a = c.args in
    on_ok_weaker c.push_all.result
    (λ e. e ∙ block_taken a.bounds.now (g.I.BoundedItems.item a.items.now) a.low a.high a.ids.start
    (a.ids.«end» - a.ids.start) a.ids.«end» _ refl (omega arith) c.requires.block c.requires.enclosed
    a.hits.now.items (c.is_inside.ensures c.if-is_inside.true))
    c.push_all.ensures
