use Rattle.std.proofs.Common.{◌≡◌, ap, sym, ◌∙◌}
use Rattle.col_common.specs.Ascending.{is_rising}
use Rattle.col_codecs.proofs.LineStatsLemmas.{flat-items}
use Rattle.col_codecs.proofs.linear.reader.LinearReader.rises.Goals as goal

pub returns : goal.returns
returns c =
    let r = c.self.inside in
    let flat : r.bit_unpacker ≡ 0 = sym c.bit_width.ensures ∙ c.if-bit_width-ne0.false in
    c.rises_on.ensures
    ∙ ap is_rising (sym (flat-items r.line r.bit_unpacker r.data r.stats.num_rows flat) ∙ c.self.view_is)
