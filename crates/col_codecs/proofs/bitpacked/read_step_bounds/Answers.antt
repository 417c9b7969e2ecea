use Rattle.std.proofs.Common.{◌∙◌, sym, true, false}
use Rattle.col_codecs.specs.Bitpacked.{bitpacked_items}
use Rattle.col_codecs.specs.ColumnStats.{stats_seen}
use Rattle.col_codecs.proofs.BitpackedLemmas.{same_stats-no_steps, checked-by, checked-steps}
use Rattle.col_codecs.proofs.bitpacked.read_step_bounds.Goals as goal

pub returns-then-steps-eq0-clause-list : goal.returns-then-steps-eq0-clause-list
returns-then-steps-eq0-clause-list c =
    let s = stats_seen c.args.stats.now in
    checked-by s (bitpacked_items s c.args.bytes.now) true (sym (same_stats-no_steps s c.args.bytes.now
    c.requires.possible (sym c.steps-steps.ensures ∙ c.if-steps-eq0.true)))

pub returns-then-not-is_same-clause-list : goal.returns-then-not-is_same-clause-list
returns-then-not-is_same-clause-list c =
    checked-steps (stats_seen c.args.stats.now) (stats_seen c.in_ok-found.found) c.args.bytes.now
    c.args.bit_unpacker c.steps-steps.result c.is_same.result false c.requires.possible c.requires.width
    c.steps-steps.ensures c.in_ok-found.ensures.stats c.is_same.ensures c.if-not-is_same.true

pub returns-clause-list : goal.returns-clause-list
returns-clause-list c =
    checked-steps (stats_seen c.args.stats.now) (stats_seen c.in_ok-found.found) c.args.bytes.now
    c.args.bit_unpacker c.steps-steps.result c.is_same.result true c.requires.possible c.requires.width
    c.steps-steps.ensures c.in_ok-found.ensures.stats c.is_same.ensures c.if-not-is_same.false
