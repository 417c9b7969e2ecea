use Rattle.std.proofs.Common.{true, false, sym, ap, ◌∙◌, arith, Some}
use Rattle.col_codecs.specs.declared.blockwise_linear.block.Block.{Block}
use Rattle.col_codecs.specs.Line.{with_width}
use Rattle.col_codecs.proofs.BlockReadingLemmas.{lines_of-short, AreRead-push, AreRead-stuck, AreRead-end}
use Rattle.col_codecs.proofs.blockwise_linear.block.read_blocks.Goals as goal

pub returns-then-lines-count : goal.returns-then-lines-count
returns-then-lines-count c = lines_of-short c.args.count c.args.lines.now (omega arith)

pub returns-in_default : goal.returns-in_default
returns-in_default c =
    AreRead-stuck c.args.count c.args.lines.now c.loop-block_id._block_id c.loop-block_id.blocks.items
    c.loop-block_id.lines.now c.loop-block_id.invariant c.loop-block_id-test.true (sym c.in_default.ensures.value)

pub loop-block_id-preserved : goal.loop-block_id-preserved
loop-block_id-preserved c =
    let line = c.in-Some.params.line in
    let b : Block = record { line = line; bit_unpacker = c.new.result; start = 0 } in
    rw c.in_ok-push.ensures.items
    (AreRead-push c.args.count c.args.lines.now c.loop-block_id._block_id c.loop-block_id.blocks.items
    c.loop-block_id.lines.now c.in-Some.rest.now b c.loop-block_id.invariant c.loop-block_id-test.true
    (sym c.in-Some.ensures.value ∙ ap (λ w. Some (with_width line w, c.in-Some.rest.now)) (sym c.new.ensures)))

pub returns-then-not-is_empty : goal.returns-then-not-is_empty
returns-then-not-is_empty c =
    AreRead-end c.args.count c.args.lines.now c.loop-block_id._block_id c.loop-block_id.blocks.items
    c.loop-block_id.lines.now false c.is_empty.result c.loop-block_id.invariant (omega arith) c.is_empty.ensures
    c.if-not-is_empty.true

pub returns : goal.returns
returns c =
    AreRead-end c.args.count c.args.lines.now c.loop-block_id._block_id c.loop-block_id.blocks.items
    c.loop-block_id.lines.now true c.is_empty.result c.loop-block_id.invariant (omega arith) c.is_empty.ensures
    c.if-not-is_empty.false
