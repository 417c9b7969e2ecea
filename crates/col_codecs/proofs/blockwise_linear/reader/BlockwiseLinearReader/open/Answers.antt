use Rattle.std.proofs.Common.{◌∙◌, sym, ap, subst, take, Some}
use Rattle.col_codecs.specs.ColumnStats.{stats_seen}
use Rattle.col_codecs.specs.Header.{list_by}
use Rattle.col_codecs.specs.Blocks.{item_of, step_of, items_in, IsReader}
use Rattle.col_codecs.specs.BlockBounds.{Enclose}
use Rattle.col_codecs.proofs.blockwise_linear.reader.BlockwiseLinearReader.open.Goals as goal

pub invariant_of-result : goal.invariant_of-result
invariant_of-result c =
    let s = stats_seen c.args.stats in
    let found = c.in_ok-blocks in
    let same = ap (take found.len) c.as_slice.ensures ∙ sym c.truncate.ensures in (
      subst (IsReader s found.blocks.items) same found.ensures.reader,
      subst (λ read. Enclose found.bounds.items (λ i. item_of s (step_of found.blocks.items read i)) s.count) same found.ensures.bounds,
    )

pub returns : goal.returns
returns c =
    let s = stats_seen c.args.stats in
    ap (list_by 2 s) (sym c.as_slice.ensures)
    ∙ c.in_ok-blocks.ensures.list
    ∙ ap (λ read. Some (items_in s c.in_ok-blocks.blocks.items read))
    (ap (take c.in_ok-blocks.len) c.as_slice.ensures ∙ sym c.truncate.ensures)
