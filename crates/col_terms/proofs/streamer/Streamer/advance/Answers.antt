use Rattle.std.proofs.Common.{◌<◌, ap, ◌∙◌, arith}
use Rattle.col_terms.specs.Streams.{stepped}
use Rattle.col_terms.proofs.StreamLemmas.{walk-step}
use Rattle.col_terms.proofs.streamer.Streamer.advance.Goals as goal

pub returns-clause-term : goal.returns-clause-term
returns-clause-term c =
    let s = c.self.inside in
    let more : s.next_ord < s.end_ord = omega (arith, c.self.invariant.ordered, c.if-self.false) in
    walk-step s.bytes.now s.num_terms s.next_ord s.end_ord s.is_on_term s.key.now c.term_in-self-inside.result.now
    c.self.invariant.table more c.self.invariant.within c.term_in-self-inside.ensures
    ∙ ap (λ w. stepped w.left) c.self.view_is
