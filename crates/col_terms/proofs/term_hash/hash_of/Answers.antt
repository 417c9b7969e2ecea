use Rattle.col_terms.proofs.HashLemmas.{hash-more, hash-end}
use Rattle.col_terms.proofs.term_hash.hash_of.Goals as goal

pub loop-i-preserved : goal.loop-i-preserved
loop-i-preserved c =
    hash-more c.args.term.now c.loop-i.i c.loop-i.hash c.padded_head.result c.mix-hash.result c.loop-i-test.true
    c.loop-i.invariant c.padded_head.ensures.number c.mix-hash.ensures

pub returns : goal.returns
returns c =
    hash-end c.args.term.now c.loop-i.i c.loop-i.hash c.saturating_sub-last.result c.padded_head-2.result
    c.mix-hash-2.result c.mix.result c.loop-i-test.false c.loop-i.invariant c.saturating_sub-last.ensures
    c.padded_head-2.ensures.number c.mix-hash-2.ensures c.mix.ensures
