use Rattle.std.proofs.Common.{ap, sym, ◌∙◌, Some}
use Rattle.col_codecs.specs.ColumnStats.{stats_seen}
use Rattle.col_codecs.proofs.HeaderLemmas.{stats_at-behind}
use Rattle.col_codecs.proofs.header.read_stats.Goals as goal

pub returns-clause-within : goal.returns-clause-within
returns-clause-within c =
    (stats_at-behind c.args.bytes.now c.deserialize.new.data.now (stats_seen c.in-Ok.stats)
    (λ k. (c.type_inv.bytes k).fits) c.in-Ok.ensures.taken).0

pub returns-clause-value : goal.returns-clause-value
returns-clause-value c =
    let seen = stats_seen c.in-Ok.stats in
    ap (λ rest. Some (seen, rest)) (stats_at-behind c.args.bytes.now c.deserialize.new.data.now seen
    (λ k. (c.type_inv.bytes k).fits) c.in-Ok.ensures.taken).1 ∙ sym c.in-Ok.ensures.taken
