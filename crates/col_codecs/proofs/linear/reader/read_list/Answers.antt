use Rattle.std.proofs.Common.{◌≡◌, ◌*◌, ◌&&◌, ◌∙◌, true, false, refl, sym, subst}
use Rattle.col_bits.specs.Packed.{is_packed}
use Rattle.col_common.specs.Decoding.{Decodes}
use Rattle.col_common.specs.Reading.{only_if}
use Rattle.col_model.specs.Stats.{stats_of, same_stats}
use Rattle.col_codecs.specs.Header.{checked}
use Rattle.col_codecs.specs.OnLine.{values_on}
use Rattle.col_codecs.proofs.LineStatsLemmas.{flat-items}
use Rattle.col_model.specs.Items.{linear_item, linear_items}
use Rattle.col_codecs.specs.BlockBounds.{Enclose}
use Rattle.col_codecs.specs.ColumnStats.{stats_seen}
use Rattle.col_codecs.specs.Line.{with_width}
use Rattle.col_codecs.specs.LinearParams.{params_seen}
use Rattle.col_codecs.proofs.LinearReaderLemmas.{only_if-tests, same_stats-found}
use Rattle.col_codecs.proofs.linear.reader.read_list.Goals as goal

pub returns-then-not-is_packed-clause-list : goal.returns-then-not-is_packed-clause-list
returns-then-not-is_packed-clause-list c =
    only_if-tests (stats_seen c.args.stats.now) (params_seen c.args.params) c.args.bytes.now false _
    (sym c.is_packed.ensures ∙ c.if-not-is_packed.true) refl

pub returns-then-not-is_same-clause-list : goal.returns-then-not-is_same-clause-list
returns-then-not-is_same-clause-list c =
    let s = stats_seen c.args.stats.now in
    let l = params_seen c.args.params in
    only_if-tests s l c.args.bytes.now true false (sym c.is_packed.ensures ∙ c.if-not-is_packed.false)
    (same_stats-found s (stats_seen c.in_ok-found.found) l c.args.bytes.now c.new.result false c.is_same.result
    c.new.ensures c.in_ok-found.ensures.stats c.is_same.ensures c.if-not-is_same.true)

pub returns-clause-list : goal.returns-clause-list
returns-clause-list c =
    let s = stats_seen c.args.stats.now in
    let l = params_seen c.args.params in
    only_if-tests s l c.args.bytes.now true true (sym c.is_packed.ensures ∙ c.if-not-is_packed.false)
    (same_stats-found s (stats_seen c.in_ok-found.found) l c.args.bytes.now c.new.result true c.is_same.result
    c.new.ensures c.in_ok-found.ensures.stats c.is_same.ensures c.if-not-is_same.false)

pub returns-clause-bounds : goal.returns-clause-bounds
returns-clause-bounds c =
    subst (λ w. Enclose c.in_ok-found.bounds.items (linear_item (with_width c.args.params.line w) c.args.bytes.now)
    c.args.stats.now.num_rows) c.new.ensures c.in_ok-found.ensures.bounds

pub returns-then-params-eq0-clause-list : goal.returns-then-params-eq0-clause-list
returns-then-params-eq0-clause-list c =
    let s = stats_seen c.args.stats.now in
    let p = c.args.params in
    let bytes = c.args.bytes.now in
    let list = linear_items (params_seen p) bytes s.count in
    let flat : values_on p.line 0 s.count ≡ list = sym (flat-items p.line p.offset_width bytes s.count c.if-params-eq0.true) in
    let packed : true ≡ is_packed bytes (s.count * p.offset_width) = sym c.if-not-is_packed.false ∙ c.is_packed.ensures in
    subst (λ b. Decodes (λ _. list) c.read_flat.result (only_if (b && same_stats (stats_of list) s) list)) packed
    (subst (λ xs. Decodes (λ _. xs) c.read_flat.result (checked s xs)) flat c.read_flat.ensures.list)
