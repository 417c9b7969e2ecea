use Rattle.std.proofs.Common.{◌≡◌, ◌-◌, length, map, arith}
use Rattle.std.specs.List.{range_with_len}
use Rattle.std.proofs.lemmas.Grind.{common_steps}
use Rattle.col_codecs.proofs.BoundedItemLemmas.{ids_by-read}
use Rattle.col_codecs.proofs.bounded_items.BoundedItems.push_ids.Goals as goal

pub returns : goal.returns
returns g c =
    let a = c.args in
    let f = g.Self.BoundedItems.item a.self.now in
    let n = a.ids.«end» - a.ids.start in
    let vals = c.read.new.output in
    let long : length vals ≡ n = grind (arith, common_steps, c.read.auto.output) in
    let read : vals ≡ map f (range_with_len a.ids.start n) = grind (arith, common_steps, c.read.ensures, c.read.auto.output) in
    grind (arith, common_steps, c.push_within.ensures, ids_by-read f vals a.low a.high a.ids.start n read, long)
