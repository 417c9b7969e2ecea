use Rattle.std.proofs.Common.{◌≡◌, ◌+◌, ◌*◌, take, ap, ◌∙◌, arith, set}
use Rattle.col_bits.proofs.GroupLemmas.{read_more}
use Rattle.col_bits.proofs.const_width.read_groups.Goals as goal

pub loop-k-preserved : goal.loop-k-preserved
loop-k-preserved g c =
    let a = c.args in
    let i = a.at + (8 * c.loop-g.g + c.loop-k.k) in
    let next : a.at + (8 * c.loop-g.g + (c.loop-k.k + 1)) ≡ i + 1 = omega arith in
    ap (λ n. take n (set c.loop-k.output i c.in_group.result)) next
    ∙ read_more a.«data».now g.row.W a.group c.loop-g.g c.loop-k.k i _ c.in_group.result (take a.at a.output.now)
    c.loop-k.output (omega arith) (omega arith) c.in_group.ensures.value c.loop-k.invariant
