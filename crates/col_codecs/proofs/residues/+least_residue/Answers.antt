use Rattle.std.proofs.Common.{◌<◌, ◌+◌, ◌*◌, ◌/◌, ◌%◌, ◌-◌, ◌∙◌, refl, sym, ap, arith, subst}
use Rattle.col_codecs.specs.Residues.{residue, IsLeast}
use Rattle.col_codecs.proofs.ResidueLemmas.{least-unturned, least-turned, turned-rises}
use Rattle.col_codecs.proofs.residues.+least_residue.Goals as goal

pub returns-then-turns-eq0 : goal.returns-then-turns-eq0
returns-then-turns-eq0 t c =
    let a = c.args in
    let s = c.in_short_steps-factor.result in
    c.in_short_steps-factor.ensures.least s.1 (least-unturned a.modulus s.0 s.1 a.count _ c.requires.some
    c.in_short_steps-factor.ensures.offset (c.quotient-turns.ensures ∙ ap (λ k. (s.0 * k + s.1) / a.modulus) c.from.ensures)
    c.if-turns-eq0.true)

pub returns : goal.returns
returns t c =
    let a = c.args in
    let s = c.in_short_steps-factor.result in
    let turns = c.quotient-turns.result in
    let back = (s.0 - a.modulus % s.0) % s.0 in
    let positive : 0 < s.0 = turned-rises a.modulus s.0 s.1 c.from.result c.in_short_steps-factor.ensures.offset
    (omega (arith, c.quotient-turns.ensures)) in
    c.in_short_steps-factor.ensures.least c.min.result
    (subst (IsLeast (residue a.modulus s.0 s.1) a.count) (sym c.min.ensures)
    (least-turned a.modulus s.0 s.1 a.count back positive (omega arith) c.in_short_steps-factor.ensures.offset refl
    turns c.least_residue-later.result c.requires.some
    (c.quotient-turns.ensures ∙ ap (λ k. (s.0 * k + s.1) / a.modulus) c.from.ensures)
    c.least_residue-later.ensures))
