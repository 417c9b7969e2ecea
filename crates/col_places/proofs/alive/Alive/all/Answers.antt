use Rattle.std.proofs.Common.{◌≡◌, ◌≤◌, ◌*◌, List, ℕ, length, replicate, sym, ap, ◌∙◌, arith}
use Rattle.std.proofs.lemmas.List.{length-replicate}
use Rattle.std.proofs.lemmas.List.FromFn.{length-range_with_len}
use Rattle.col_places.specs.Bits.{clear_rows}
use Rattle.col_places.specs.Places.{AliveRows}
use Rattle.col_places.proofs.ClearLemmas.{clear-zeros}
use Rattle.col_places.proofs.alive.Alive.all.Goals as goal

pub invariant_of-result : goal.invariant_of-result
invariant_of-result c =
    let n = c.args.num_rows in
    let count = c.div_ceil-count.result in
    let zeros : c.in_ok-dropped.dropped.items ≡ replicate count 0 = c.in_ok-dropped.ensures.items_if_clones_equal (λ y h. h) in
    let room : n ≤ 64 * count = omega (arith, c.div_ceil-count.ensures) in
    record {
      room = omega (arith, ap length zeros, length-replicate {A = ℕ} count 0, room);
      counted =
          sym (ap (λ (words : List ℕ). length (clear_rows words n)) zeros ∙ ap length (clear-zeros count n room)
          ∙ length-range_with_len 0 n);
    }

pub returns : goal.returns
returns c =
    let n = c.args.num_rows in
    let count = c.div_ceil-count.result in
    let zeros : c.in_ok-dropped.dropped.items ≡ replicate count 0 = c.in_ok-dropped.ensures.items_if_clones_equal (λ y h. h) in
    let room : n ≤ 64 * count = omega (arith, c.div_ceil-count.ensures) in
    let own : List ℕ → AliveRows = λ rows. record { count = n; rows = rows } in
    ap own (ap (λ (words : List ℕ). clear_rows words n) zeros ∙ clear-zeros count n room)
