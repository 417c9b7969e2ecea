use Rattle.std.proofs.Common.{length, ap, ◌∙◌}
use Rattle.col_bits.specs.Packed.{item}
use Rattle.col_codecs.specs.Line.{raised}
use Rattle.col_codecs.specs.Turning.{by_position}
use Rattle.col_codecs.proofs.TurningLemmas.{by_position-of}
use Rattle.col_codecs.proofs.linear.reader.LinearItemsBoundedItems.read.Goals as goal

pub returns : goal.returns
returns c =
    let l = c.args.self.now in
    let above = raised l.line.slope l.line.intercept in
    c.add_to.ensures
    ∙ ap (by_position above c.args.start) c.get_range.ensures
    ∙ by_position-of above (item l.bytes.now l.bit_unpacker) c.args.start (length c.args.output.now)
