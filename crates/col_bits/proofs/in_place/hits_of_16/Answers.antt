use Rattle.std.proofs.Common.{ℕ, ◌+◌, ◌*◌, ◌%◌, ◌^◌, ◌-◌, ◌≤◌, arith, mul-le-mul_right}
use Rattle.std.specs.Int.{is_in_range}
use Rattle.col_bits.specs.Packed.{item}
use Rattle.col_bits.proofs.LaneLemmas.{joined_16, below_16}
use Rattle.col_bits.proofs.InPlaceLemmas.{hits_16}
use Rattle.col_bits.proofs.in_place.hits_of_16.Goals as goal

pub above-requires-3-clause-room : goal.above-requires-3-clause-room
above-requires-3-clause-room g c =
    let most : (c.args.from + 8) * g.row.W ≤ 56 * g.row.W = mul-le-mul_right g.row.W (omega arith) in
    omega (arith, most, c.requires.room)

pub above-requires-4-clause-room : goal.above-requires-4-clause-room
above-requires-4-clause-room g c =
    let most : (c.args.from + 12) * g.row.W ≤ 60 * g.row.W = mul-le-mul_right g.row.W (omega arith) in
    omega (arith, most, c.requires.room)

pub returns-clause-value : goal.returns-clause-value
returns-clause-value g c =
    let a = c.args in
    let by : ℕ → ℕ = λ k. 2 ^ (k * g.row.W % 8) in
    hits_16 a.«data».now g.row.W a.group a.from a.low a.span c.join_8.result c.join_8-2.result c.requires.width c.requires.range
    (joined_16 (λ k. (item a.«data».now g.row.W (8 * a.group + k) * by k + (2 ^ 32 - a.low * by k)) % 2 ^ 32) a.from
    c.above.result c.above-2.result c.above-3.result c.above-4.result c.join_4-front.result c.join_4-back.result
    c.join_8.result c.above.ensures c.above-2.ensures c.above-3.ensures c.above-4.ensures c.join_4-front.ensures
    c.join_4-back.ensures c.join_8.ensures)
    (joined_16 (λ k. a.span * by k) a.from c.raised.result c.raised-2.result c.raised-3.result c.raised-4.result
    c.join_4-front_span.result c.join_4-back_span.result c.join_8-2.result c.raised.ensures c.raised-2.ensures
    c.raised-3.ensures c.raised-4.ensures c.join_4-front_span.ensures c.join_4-back_span.ensures c.join_8-2.ensures)

pub returns-clause-small : goal.returns-clause-small
returns-clause-small g c =
    let a = c.args in
    let tests = below_16 (λ k. is_in_range a.low (a.low + a.span) (item a.«data».now g.row.W (8 * a.group + k))) a.from in
    omega (arith, returns-clause-value g c, tests)
