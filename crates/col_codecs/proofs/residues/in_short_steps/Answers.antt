use Rattle.std.proofs.Common.{refl}
use Rattle.col_codecs.proofs.ResidueLemmas.{least-back}
use Rattle.col_codecs.proofs.residues.in_short_steps.Goals as goal

pub returns-clause-least : goal.returns-clause-least
returns-clause-least c =
    let a = c.args in λ v least. least-back a.modulus a.factor a.offset a.count _ c.from.result _ v c.requires.factor refl
    c.from.ensures c.remainder.ensures least
