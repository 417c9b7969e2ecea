use Rattle.std.proofs.Common.{refl, arith}
use Rattle.col_terms.specs.Building.{HasHead}
use Rattle.col_terms.proofs.ArenaLemmas.{numbered-more}
use Rattle.col_terms.proofs.dictionary_builder.numbered.Goals as goal

pub loop-id-preserved : goal.loop-id-preserved
loop-id-preserved c =
    let known : HasHead (c.padded_head.result, c.get-term.result, c.loop-id.id) =
    record { head = c.padded_head.ensures.number; bytes = c.padded_head.ensures.bytes } in
    numbered-more c.args.terms.now c.loop-id.all.items c.push.new.self.items c.loop-id.id
    (c.padded_head.result, c.get-term.result, c.loop-id.id) c.loop-id.invariant known refl
    (omega (arith, c.loop-id-test.true, c.len-num_terms.ensures)) c.get-term.ensures c.in_ok-push.ensures.items
