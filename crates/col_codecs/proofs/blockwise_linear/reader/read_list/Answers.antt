use Rattle.std.proofs.Common.{◌≡◌, ◌∙◌, Bool, true, false, Some, sym, ap, subst, length, take, List}
use Rattle.std.proofs.lemmas.Result.{err_from_is_err_and}
use Rattle.col_common.specs.Reading.{only_if}
use Rattle.col_codecs.specs.declared.blockwise_linear.block.Block.{Block}
use Rattle.col_codecs.specs.ColumnStats.{stats_seen}
use Rattle.col_codecs.specs.Header.{list_by}
use Rattle.col_codecs.specs.Blocks.{item_of, step_of, items_in, lines_of, IsReader}
use Rattle.col_codecs.specs.BlockBounds.{Enclose}
use Rattle.col_codecs.proofs.BlockReaderLemmas.{list_by-no_parts, list_by-no_lines, refuses-list, list_by-other_blocks, held-whole, held-list, held-reader, front-bounds, same_stats-items_in}
use Rattle.col_codecs.proofs.blockwise_linear.reader.read_list.Goals.{After-is_same}
use Rattle.col_codecs.proofs.blockwise_linear.reader.read_list.Goals as goal

pub returns-in_default-clause-list : goal.returns-in_default-clause-list
returns-in_default-clause-list c = list_by-no_parts (stats_seen c.args.stats.now) c.args.bytes.now (sym c.in_default.ensures)

pub returns-in_err-blocks-clause-list : goal.returns-in_err-blocks-clause-list
returns-in_err-blocks-clause-list c =
    let p = err_from_is_err_and c.from_residual.result c.from_residual.ensures.1 in
    rw (p.1, p.2) (refuses-list c.in_err-blocks.field-0.0 (lines_of c.div_ceil.result c.in-Some.lines.now)
    (list_by 2 (stats_seen c.args.stats.now) c.args.bytes.now)
    (λ none. list_by-no_lines (stats_seen c.args.stats.now) c.args.bytes.now c.in-Some.data.now c.in-Some.lines.now
    c.div_ceil.result c.div_ceil.ensures (sym c.in-Some.ensures) none)
    c.in_err-blocks.ensures)

pub returns-then-not-place_blocks-clause-list : goal.returns-then-not-place_blocks-clause-list
returns-then-not-place_blocks-clause-list c =
    list_by-other_blocks (stats_seen c.args.stats.now) c.args.bytes.now c.in-Some.data.now c.in-Some.lines.now
    c.div_ceil.result c.in_ok-blocks.blocks.items c.div_ceil.ensures (sym c.in-Some.ensures)
    c.in_ok-blocks.ensures
    c.deref_mut.result.now c.place_blocks.result c.deref_mut.ensures.value c.place_blocks.ensures.packed c.if-not-place_blocks.true

pub read_bounds-requires-clause-whole : goal.read_bounds-requires-clause-whole
read_bounds-requires-clause-whole c =
    held-whole (stats_seen c.args.stats.now) c.args.bytes.now c.in-Some.data.now c.in-Some.lines.now
    c.div_ceil.result c.in_ok-blocks.blocks.items c.div_ceil.ensures (sym c.in-Some.ensures)
    c.in_ok-blocks.ensures
    c.deref_mut.result.now c.place_blocks.new.blocks c.deref.result.now c.in_ok-blocks.blocks.len
    c.place_blocks.result c.deref_mut.ensures.value c.place_blocks.ensures.params c.place_blocks.auto.blocks
    c.in_ok-blocks.blocks.ok.0 c.deref.ensures.value c.place_blocks.ensures.packed c.if-not-place_blocks.false
    (c.place_blocks.ensures.placed c.if-not-place_blocks.false)

-- the list by the test of its statistics
listed : (c : After-is_same) (b : Bool) → c.is_same.result ≡ b
    → list_by 2 (stats_seen c.args.stats.now) c.args.bytes.now
    ≡ only_if b (items_in (stats_seen c.args.stats.now) c.deref.result.now (take (length c.in-Some.data.now) c.args.bytes.now))
listed c b is =
    held-list (stats_seen c.args.stats.now) c.args.bytes.now c.in-Some.data.now c.in-Some.lines.now
    c.div_ceil.result c.in_ok-blocks.blocks.items c.div_ceil.ensures (sym c.in-Some.ensures)
    c.in_ok-blocks.ensures
    c.deref_mut.result.now c.place_blocks.new.blocks c.deref.result.now c.in_ok-blocks.blocks.len
    c.place_blocks.result c.deref_mut.ensures.value c.place_blocks.ensures.params c.place_blocks.auto.blocks
    c.in_ok-blocks.blocks.ok.0 c.deref.ensures.value c.place_blocks.ensures.packed c.if-not-place_blocks.false
    b c.is_same.result (c.place_blocks.ensures.placed c.if-not-place_blocks.false) (same_stats-items_in
    (stats_seen c.args.stats.now) (stats_seen c.in_ok-found.found) c.deref.result.now c.in-Some.data.now
    c.is_same.result c.in_ok-found.ensures.stats c.is_same.ensures) is

pub returns-then-not-is_same-clause-list : goal.returns-then-not-is_same-clause-list
returns-then-not-is_same-clause-list c =
    listed (goal.at.returns-then-not-is_same-clause-list c).After-is_same false c.if-not-is_same.true

pub returns-clause-list : goal.returns-clause-list
returns-clause-list c =
    listed (goal.at.returns-clause-list c).After-is_same true c.if-not-is_same.false
    ∙ ap (λ held. Some
    (items_in (stats_seen c.args.stats.now) held (take (length c.in-Some.data.now) c.args.bytes.now)))
    c.deref.ensures.value

pub returns-clause-reader : goal.returns-clause-reader
returns-clause-reader c =
    subst (λ (held : List Block). IsReader (stats_seen c.args.stats.now) held
    (take (length c.in-Some.data.now) c.args.bytes.now)) c.deref.ensures.value
    (held-reader (stats_seen c.args.stats.now) c.args.bytes.now c.in-Some.data.now c.in-Some.lines.now
    c.div_ceil.result c.in_ok-blocks.blocks.items c.div_ceil.ensures (sym c.in-Some.ensures)
    c.in_ok-blocks.ensures
    c.deref_mut.result.now c.place_blocks.new.blocks c.deref.result.now c.in_ok-blocks.blocks.len
    c.place_blocks.result c.deref_mut.ensures.value c.place_blocks.ensures.params c.place_blocks.auto.blocks
    c.in_ok-blocks.blocks.ok.0 c.deref.ensures.value c.place_blocks.ensures.packed c.if-not-place_blocks.false
    c.is_same.result (c.place_blocks.ensures.placed c.if-not-place_blocks.false)
    (same_stats-items_in (stats_seen c.args.stats.now) (stats_seen c.in_ok-found.found) c.deref.result.now
    c.in-Some.data.now c.is_same.result c.in_ok-found.ensures.stats c.is_same.ensures) c.if-not-is_same.false)

pub returns-clause-bounds : goal.returns-clause-bounds
returns-clause-bounds c =
    let s = stats_seen c.args.stats.now in
    let found = c.in_ok-found.bounds.items in
    subst (λ (held : List Block). Enclose found
    (λ i. item_of s (step_of held (take (length c.in-Some.data.now) c.args.bytes.now) i)) s.count)
    c.deref.ensures.value
    (front-bounds s c.args.bytes.now c.in-Some.data.now c.in-Some.lines.now c.div_ceil.result
    c.in_ok-blocks.blocks.items c.div_ceil.ensures (sym c.in-Some.ensures) c.in_ok-blocks.ensures
    found c.deref.result.now c.in_ok-found.ensures.bounds)
