use Rattle.std.proofs.Common.{◌<◌, length, ap, inr, refl, ◌∙◌, arith}
use Rattle.col_model.specs.Refusal.{or_refuse, invalid_data}
use Rattle.col_segments.proofs.IdLemmas.{with_ids, no-id, some-left}
use Rattle.col_segments.proofs.rows.read_ids.Goals as goal

pub returns-then-not-is_empty : goal.returns-then-not-is_empty
returns-then-not-is_empty c =
    let left = c.loop-left.left.now in
    let few : length left < 4 = omega (arith, c.in_default.len_below) in
    let some = some-left (length left) c.if-not-is_empty.ensures in
    let none = c.loop-left.invariant ∙ ap (with_ids c.loop-left.ids.items) (no-id left few some) in
    record { ok = tt; refused = inr (invalid_data, ap (λ o. or_refuse o invalid_data) none, refl) }
