use Rattle.std.proofs.Common.{◌<◌, ◌≤◌, ◌+◌, ◌++◌, ℕ, length, get_or, map, ap, sym, ◌∙◌, arith}
use Rattle.col_segments.specs.Live.{addresses}
use Rattle.col_segments.specs.Segments.{HeldTable}
use Rattle.col_segments.proofs.KeptLemmas.{count-more, addresses-more, none-more, few-tables}
use Rattle.col_segments.proofs.compacting.alive_rows.Goals as goal
use Rattle.col_segments.proofs.compacting.alive_rows.Goals.{then-num_alive-gt0+in_ok-push_segment, else-num_alive-gt0}

pub overflow_add-segment_ord : goal.overflow_add-segment_ord
overflow_add-segment_ord c =
    let hs = c.args.held.now in
    let i = c.loop-place.place in
    let d = c.index-held-place.result in
    let within : i < length hs = omega (arith, c.loop-place-test.true) in
    let is = ap (λ (h : HeldTable). length h.alive) c.index-held-place.is in
    let some : 0 < length (get_or hs i d).alive = omega (arith, is, c.num_alive.ensures, c.if-num_alive-gt0.true) in
    omega (arith, c.loop-place.invariant.counted, count-more hs i d within some, few-tables hs (i + 1), c.requires)

pub loop-place-preserved : goal.loop-place-preserved
loop-place-preserved c =
    let hs = c.args.held.now in
    let i = c.loop-place.place in
    let d = c.index-held-place.result in
    let was = c.loop-place.invariant in
    let within : i < length hs = omega (arith, c.loop-place-test.true) in
    let count = c.num_alive.ensures ∙ ap (λ (h : HeldTable). length h.alive) c.index-held-place.is in
    elim c.if-num_alive-gt0.branch [
      | then-num_alive-gt0+in_ok-push_segment w ↦
          let some : 0 < length (get_or hs i d).alive = omega (arith, count, w.if-num_alive-gt0.true) in
          let alive = ap (λ (h : HeldTable). h.alive) c.index-held-place.is in
          let named =
          w.in_ok-push_segment.ensures ∙ (λ j. was.named j ++ map (λ (r : ℕ). (was.counted j, r)) (alive j))
          ∙ sym (addresses-more hs i d within some) in
          record {
            named = rw w.rows-is named;
            counted = w.segment_ord-is ∙ ap (λ n. n + 1) was.counted ∙ sym (count-more hs i d within some);
          }
      | else-num_alive-gt0 w ↦
          let none : length (get_or hs i d).alive ≤ 0 = omega (arith, count, w.if-num_alive-gt0.false) in
          record {
            named = rw w.rows-is (was.named ∙ ap addresses (sym (none-more hs i d within none)));
            counted = w.segment_ord-is ∙ was.counted ∙ ap length (sym (none-more hs i d within none));
          }
    ]
