use Rattle.std.proofs.Common.{◌<◌, ap, ◌∙◌}
use Rattle.col_model.proofs.ItemLaws.{length-linear_items}
use Rattle.col_model.specs.Items.{linear_item}
use Rattle.col_codecs.specs.Line.{with_width}
use Rattle.col_codecs.proofs.LinearReaderLemmas.{linear_items-get}
use Rattle.col_codecs.proofs.linear.reader.LinearReaderColumnValuesU64.get_val.Goals as goal

pub returns : goal.returns
returns c =
    let r = c.self.inside in
    let l = with_width r.line r.bit_unpacker in
    let within : c.args.idx < r.stats.num_rows = rw (← c.self.view_is, length-linear_items l r.data r.stats.num_rows) at c.requires in
    rw (← c.self.view_is) (linear_items-get l r.data r.stats.num_rows c.args.idx c.item_at.result within
    (c.item_at.ensures ∙ ap (λ b. linear_item l b c.args.idx) c.as_slice.ensures))
