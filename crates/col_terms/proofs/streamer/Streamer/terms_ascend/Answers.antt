use Rattle.std.proofs.Common.{map, ap, sym, ◌∙◌}
use Rattle.col_common.specs.Ascending.{is_ascending}
use Rattle.col_terms.specs.Streams.{OrdTerm, TermStream}
use Rattle.col_terms.proofs.WalkLemmas.{walk-ascends}
use Rattle.col_terms.proofs.streamer.Streamer.terms_ascend.Goals as goal

pub returns : goal.returns
returns c =
    let s = c.self.inside in
    ap (λ (w : TermStream). is_ascending (map (λ (p : OrdTerm). p.1) w.left)) (sym c.self.view_is)
    ∙ walk-ascends s.bytes.now s.num_terms s.next_ord s.end_ord s.is_on_term s.key.now c.self.invariant
