use Rattle.std.proofs.Common.{◌∙◌, arith}
use Rattle.col_bits.proofs.SpareLemmas.{spelled-whole, spelled-spare}
use Rattle.col_bits.proofs.spare.is_packed.Goals as goal

pub returns-then-used-eq0 : goal.returns-then-used-eq0
returns-then-used-eq0 c =
    spelled-whole c.args.bytes.now c.args.num_bits (λ k. (c.type_inv.bytes k).fits)
    (c.if-bytes-div_ceil.false ∙ c.div_ceil.ensures) c.if-used-eq0.true

pub returns-else-used-eq0 : goal.returns-else-used-eq0
returns-else-used-eq0 c =
    spelled-spare c.args.bytes.now c.args.num_bits (λ k. (c.type_inv.bytes k).fits)
    (c.if-bytes-div_ceil.false ∙ c.div_ceil.ensures) (omega (arith, c.if-used-eq0.false))
