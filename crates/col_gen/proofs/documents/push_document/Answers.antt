use Rattle.std.proofs.lemmas.Result.{on_ok_weaker}
use Rattle.col_gen.proofs.AddedLemmas.{doc-added}
use Rattle.col_gen.proofs.documents.push_document.Goals as goal

pub returns : goal.returns
returns c = on_ok_weaker c.push_addr.result (doc-added _ _ _ _ _ _ c.args.document c.args.draws.now _ _ _ _ _ _ _ _ _ _ _
    c.draw.ensures.state c.draw.ensures.value c.draw-2.ensures.state c.draw-2.ensures.value
    c.draw-deltas.ensures.state c.draw-deltas.ensures.value c.draw-3.ensures.state c.draw-3.ensures.value
    c.draw-4.ensures.state c.draw-4.ensures.value
    c.in_ok-push_size.ensures c.in_ok-push_city.ensures c.in_ok-push_deltas.ensures c.in_ok-push_on.ensures) c.push_addr.ensures
