use Rattle.std.proofs.Common.{◌≡◌, ◌+◌, ◌≤◌, ℕ, length, drop, take, ◌∙◌, arith, length-append}
use Rattle.std.proofs.lemmas.List.{length-take-le}
use Rattle.col_values.proofs.PartLemmas.{room_kept, block_mapped, block_long, part_mapped, whole_mapped}
use Rattle.col_numbers.specs.Readers.{list_of}
use Rattle.col_numbers.proofs.num_view.see_range.Goals as goal

pub loop-done-preserved : goal.loop-done-preserved
loop-done-preserved g c =
    let done = c.loop-done.done in
    let len = c.min-len.result in
    let output = c.loop-done.output in
    let part = c.see_block.new.output in
    let read = c.get_range.new.output in
    let room : done + len ≤ length output = omega (arith, c.min-len.ensures) in
    let whole : len ≤ length c.loop-done.block = omega (arith, c.min-len.ensures) in
    let count = length-take-le len c.loop-done.block whole in
    let read_long : length read ≡ len = c.get_range.auto.output ∙ count in
    let there = λ (n : ℕ). g.T.MonotonicallyMappableToU64.value (g.M.StrictlyMonotonicFn.there c.args.mapping.now n) in
    let values = list_of c.args.values.now in
    let rest = drop len c.loop-done.block in
    let next = block_mapped there values (c.args.start + done) len (length (take len c.loop-done.block)) part read
    rest read_long count c.see_block.ensures c.get_range.ensures in
    let long = block_long there values len part read rest read_long c.see_block.ensures in
    let kept = room_kept done len output part room long in
    record {
      room = kept ∙ c.loop-done.invariant.room;
      block = omega (arith, c.loop-done.invariant.block, read_long, length-append read rest);
      within = omega (arith, room, kept);
      filled = part_mapped there values c.args.start done len output part room long next c.loop-done.invariant.filled;
    }

pub returns : goal.returns
returns g c =
    whole_mapped _ _ c.args.start c.loop-done.done _ c.loop-done.output c.loop-done.invariant.room
    (omega (arith, c.loop-done.invariant.within, c.loop-done.invariant.room)) c.loop-done.invariant.filled
