use Rattle.std.proofs.Common.{◌<◌, ◌^◌, ◌∙◌, subst, arith}
use Rattle.col_model.specs.AddressList.{code_count}
use Rattle.col_compact.specs.Hits.{code_of}
use Rattle.col_compact.specs.Covers.{is_in_ranges}
use Rattle.col_compact.proofs.WalkLemmas.{walked-more, walked-all, walked-passes}
use Rattle.col_compact.proofs.PackLemmas.{has_width, width-most, block-next, packs-more, packs-all}
use Rattle.col_compact.proofs.compact_space.CompactSpace.pack.Goals as goal

pub code_of-code-requires : goal.code_of-code-requires
code_of-code-requires g c =
    walked-passes (is_in_ranges c.args.self.now) _ _ _ _ _ c.loop-at.invariant
    (block-next c.take_block-taken.new.block _ _ _ c.loop-at-test.true c.take_block-taken.ensures.within) c.requires

pub write-requires-clause-width : goal.write-requires-clause-width
write-requires-clause-width g c = rw (c.num_bits-num_bits.ensures) (width-most (code_count c.args.self.now))

pub write-requires-clause-small : goal.write-requires-clause-small
write-requires-clause-small g c =
    has_width (code_count c.args.self.now) c.from.result c.num_bits-num_bits.result
    (subst (λ rs. code_count rs < 2 ^ 32) c.self.view_is c.self.invariant.small)
    (let code = c.from.ensures in let last = c.code_of-code.ensures.last in omega (arith, code, last))
    c.num_bits-num_bits.ensures

pub loop-at-preserved : goal.loop-at-preserved
loop-at-preserved g c =
    walked-more _ _ _ _ _ _ c.loop-at.invariant
    (block-next c.take_block-taken.new.block _ _ _ c.loop-at-test.true c.take_block-taken.ensures.within)
    (packs-more _ _ _ _ c.from.result _ _ _ _ c.loop-at.invariant.holds
    (c.from.ensures ∙ c.code_of-code.ensures.value) c.in_ok-write.ensures.bits c.in_ok-write.ensures.count
    c.in_ok-write.ensures.bytes)

pub returns : goal.returns
returns g c =
    packs-all (code_of c.args.self.now) _ _ _ _ _ _ c.num_bits-num_bits.ensures
    (walked-all _ _ _ c.packed.invariant.walked (c.take_block-taken.ensures.end c.if-taken-eq0.true
    (let long = c.take_block-taken.auto.block in omega (arith, long))))
    c.in_ok-close.ensures.bits c.in_ok-close.ensures.count c.in_ok-close.ensures.bytes
