use Rattle.std.proofs.Common.{◌≡◌, IfSome, sym, ◌∙◌, subst}
use Rattle.col_common.specs.Ascending.{is_never_falling}
use Rattle.col_codecs.proofs.LineStatsLemmas.{flat-items}
use Rattle.col_codecs.proofs.linear.reader.LinearReader.never_falls.Goals as goal

pub returns : goal.returns
returns c =
    let r = c.self.inside in
    let flat : r.bit_unpacker ≡ 0 = sym c.bit_width.ensures ∙ c.if-bit_width-ne0.false in
    subst (λ xs. IfSome c.never_falls_on.result (λ answer. answer ≡ is_never_falling xs))
    (sym (flat-items r.line r.bit_unpacker r.data r.stats.num_rows flat) ∙ c.self.view_is) c.never_falls_on.ensures
