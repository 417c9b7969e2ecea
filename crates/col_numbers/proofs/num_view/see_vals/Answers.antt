use Rattle.std.proofs.Common.{◌+◌, ◌-◌, ℕ, map, drop, take, slice_get, ◌∙◌, arith, length-append}
use Rattle.std.proofs.lemmas.List.{length-take-le}
use Rattle.col_values.specs.Monotonic.{Passes}
use Rattle.col_numbers.specs.Readers.{list_of}
use Rattle.col_numbers.specs.Views.{is_seen}
use Rattle.col_numbers.proofs.PlaceLemmas.{found_all, block_fits, seen_block, seen_more}
use Rattle.col_numbers.proofs.num_view.see_vals.Goals as goal

pub see_block-requires-clause-seen : goal.see_block-requires-clause-seen
see_block-requires-clause-seen g c =
    found_all (Passes (is_seen (g.M.StrictlyMonotonicFn.is_in c.args.mapping.now) (g.M.StrictlyMonotonicFn.there c.args.mapping.now)
    g.T.MonotonicallyMappableToU64.is_code)) _ _ _ _ _ (c.get_vals.auto.output
    ∙ length-take-le _ c.loop-done.block (omega (arith, c.min-len.ensures))) c.requires.seen c.get_vals.ensures

pub loop-done-preserved : goal.loop-done-preserved
loop-done-preserved g c =
    let part = c.see_block.new.output in
    let l = c.loop-done in
    let len = c.min-len.result in
    let read = c.get_vals.new.output in
    let fits = block_fits l.done len l.output part l.block read c.min-len.ensures l.invariant.within c.get_vals.auto.output
    c.see_block.auto.output in
    let there = λ (n : ℕ). g.T.MonotonicallyMappableToU64.value (g.M.StrictlyMonotonicFn.there c.args.mapping.now n) in
    let values = list_of c.args.values.now in
    let next = seen_block there values (take (l.done + len - l.done) (drop l.done c.args.indexes.now)) len part read
    (drop len l.block) fits.read_long c.see_block.ensures c.get_vals.ensures in
    record {
      room = fits.kept ∙ l.invariant.room;
      block = omega (arith, l.invariant.block, fits.read_long, length-append read (drop len l.block));
      within = omega (arith, fits.room, fits.kept);
      filled =
          seen_more (slice_get (map there values)) c.args.indexes.now l.done len (l.done + len - l.done) l.output part
          (omega arith) fits.room fits.long next l.invariant.filled;
    }
