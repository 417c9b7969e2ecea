use Rattle.std.proofs.Common.{◌-◌, ◌/◌, ◌∙◌, sym}
use Rattle.col_codecs.proofs.TurningLemmas.{by_position-alone}
use Rattle.col_codecs.proofs.bitpacked.ColumnStatsTurn.turn.Goals as goal

pub returns : goal.returns
returns c =
    let s = c.args.self.now in
    c.take_steps.ensures ∙ sym (by_position-alone (λ x. (x - s.min_value) / s.gcd) c.args._start c.args.vals.now)
