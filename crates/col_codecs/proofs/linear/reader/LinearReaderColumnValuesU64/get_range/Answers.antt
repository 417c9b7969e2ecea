use Rattle.std.proofs.Common.{◌+◌, ◌≤◌, length, map, ap, ◌∙◌, arith}
use Rattle.std.specs.List.{range_with_len}
use Rattle.col_model.specs.Items.{linear_item}
use Rattle.col_model.proofs.ItemLaws.{length-linear_items}
use Rattle.col_codecs.specs.Line.{with_width}
use Rattle.col_codecs.proofs.LinearReaderLemmas.{linear_items-part}
use Rattle.col_codecs.proofs.linear.reader.LinearReaderColumnValuesU64.get_range.Goals as goal

pub overflow_cast-start : goal.overflow_cast-start
overflow_cast-start c =
    let r = c.self.inside in
    omega (arith, c.requires, ap length c.self.view_is, length-linear_items (with_width r.line r.bit_unpacker) r.data r.stats.num_rows)

pub read-requires-clause-within : goal.read-requires-clause-within
read-requires-clause-within c =
    let r = c.self.inside in
    omega (arith, c.requires, ap length c.self.view_is, length-linear_items (with_width r.line r.bit_unpacker) r.data r.stats.num_rows)

pub returns : goal.returns
returns c =
    let r = c.self.inside in
    let l = with_width r.line r.bit_unpacker in
    let within : c.args.start + length c.args.output.now ≤ r.stats.num_rows =
    omega (arith, c.requires, ap length c.self.view_is, length-linear_items l r.data r.stats.num_rows) in
    rw (← c.self.view_is)
    (c.read.ensures ∙ ap (λ b. map (linear_item l b) (range_with_len c.args.start (length c.args.output.now)))
    c.as_slice.ensures
    ∙ linear_items-part l r.data r.stats.num_rows c.args.start (length c.args.output.now) within)
