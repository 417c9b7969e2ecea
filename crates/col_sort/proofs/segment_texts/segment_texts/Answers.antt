use Rattle.std.proofs.Common.{◌∙◌, sym}
use Rattle.col_sort.proofs.TakenLemmas.{texts-more, texts-end, taken-behind, taken-is, taken-text}
use Rattle.col_sort.proofs.segment_texts.segment_texts.Goals as goal

pub loop-segment-preserved : goal.loop-segment-preserved
loop-segment-preserved c =
    let olds = c.args.columns.now in
    let mids = c.loop-segment.columns in
    let o = c.index-columns-segment.result in
    let is = taken-is mids olds c.loop-segment.segment o c.loop-segment.invariant.left c.loop-segment.auto.columns
    c.loop-segment-test.true c.index-columns-segment.is in
    record {
      left = taken-behind mids olds c.loop-segment.segment c.take.new.self c.loop-segment.invariant.left
          c.loop-segment.auto.columns c.loop-segment-test.true;
      more = texts-more c.args.counts.now olds c.loop-segment.texts.items c.loop-segment.segment o c.text_of.result
          c.push.new.self.items c.requires c.loop-segment-test.true is
          (taken-text _ o c.take.result c.text_of.result (c.take.ensures.value ∙ sym c.index-columns-segment.is) c.text_of.ensures)
          c.in_ok-push.ensures.items c.loop-segment.invariant.more;
    }

pub returns : goal.returns
returns c =
    texts-end c.args.counts.now c.args.columns.now c.loop-segment.texts.items c.loop-segment.segment c.requires
    c.loop-segment-test.false c.loop-segment.invariant.more
