use Rattle.std.proofs.Common.{◌≡◌, sym, ◌∙◌, rules}
use Rattle.col_segments.specs.Segments.{alive_count}
use Rattle.col_segments.proofs.LiveLemmas.{live-length}
use Rattle.col_segments.proofs.segments.Segments.num_rows.Goals as goal

pub returns-clause-live : goal.returns-clause-live
returns-clause-live c =
    let counted : c.count_alive.result ≡ alive_count c.args.self.now = search rules in
    counted ∙ sym (live-length c.args.self.now)
