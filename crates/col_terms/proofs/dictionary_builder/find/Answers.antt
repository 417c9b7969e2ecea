use Rattle.std.proofs.Common.{◌-◌, ◌<◌, length, sym, ◌∙◌, arith}
use Rattle.col_terms.proofs.ChainLemmas.{sought-next, sought-found, sought-apart, this-term, other-term}
use Rattle.col_terms.proofs.dictionary_builder.find.Goals as goal
use Rattle.col_terms.proofs.dictionary_builder.find.Goals.{else-hash-via-then-hash+else-eq, else-hash-via-else-hash}

pub returns-then-eq : goal.returns-then-eq
returns-then-eq c =
    let id = c.loop-at.at - 1 in
    let below : id < length c.args.terms.now = omega (arith, c.loop-at.invariant.within, c.loop-at-test.true) in
    let same = this-term c.args.terms.now c.args.term.now id c.get.result.now below c.get.ensures (sym c.eq.ensures ∙ c.if-eq.true) in
    sym (sought-found c.args.terms.now c.args.chains.now c.args.term.now c.args.apart.now c.requires.hashed id below same)

pub loop-at-preserved : goal.loop-at-preserved
loop-at-preserved c =
    let id = c.loop-at.at - 1 in
    let below : id < length c.args.terms.now = omega (arith, c.loop-at.invariant.within, c.loop-at-test.true) in
    sought-next c.args.terms.now c.args.chains.now c.args.term.now c.loop-at.at c.older-at.result c.loop-at-test.true
    c.loop-at.invariant c.older-at.ensures
    (elim c.else-hash.branch [
      | else-hash-via-then-hash+else-eq w ↦ λ _. other-term c.args.terms.now c.args.term.now id w.get.result.now below
          w.get.ensures (sym w.eq.ensures ∙ w.if-eq.false)
      | else-hash-via-else-hash w ↦ λ own. absurd (w.if-hash.false (c.hash.ensures ∙ own ∙ sym c.requires.hash))
    ])

pub returns : goal.returns
returns c =
    sought-apart c.args.terms.now c.args.chains.now c.args.term.now c.args.apart.now c.requires.hashed c.loop-at.at
    c.loop-at-test.false c.loop-at.invariant c.find_apart.result c.find_apart.ensures.found c.find_apart.ensures.absent
