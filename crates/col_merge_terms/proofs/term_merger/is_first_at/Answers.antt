use Rattle.std.proofs.Common.{◌<◌, refl, ap, ◌∙◌, bytes_eq, arith}
use Rattle.std.specs.BinaryHeap.{heap_items, heap_len}
use Rattle.col_merge_terms.proofs.StepLemmas.{first-at, top-key}
use Rattle.col_merge_terms.proofs.term_merger.is_first_at.Goals as goal

pub returns-in-Some : goal.returns-in-Some
returns-in-Some c =
    let at = c.args.streams.now.items in
    let ahead = heap_items c.args.heap.now in
    let x = c.in-Some.stream.now in
    let some : 0 < heap_len c.args.heap.now = c.in-Some.ensures.variant.0 refl in
    let long = c.args.heap.now.data.ok in
    let own = c.key-in-Some.ensures ∙ top-key at c.index.result.now c.requires.together.some c.index.ensures in
    let test = c.eq.ensures ∙ ap (λ k. bytes_eq k c.key-in-Some.result.now) c.key.ensures ∙ ap (bytes_eq _) own in
    record {
      first = first-at c.eq.result at ahead x c.requires (omega (arith, some, long.0))
          c.in-Some.ensures.lookup (c.in-Some.ensures.greatest c.requires.heap) test;
    }
