use Rattle.col_sort.proofs.TakenLemmas.{terms-next, terms-end, keys-read}
use Rattle.col_sort.proofs.segment_texts.push_texts.Goals as goal

pub loop-segment-preserved : goal.loop-segment-preserved
loop-segment-preserved c =
    terms-next c.args.texts.now c.args.places.now c.loop-segment.segment c.index-texts-segment.result
    c.index-places-segment.result c.loop-segment.rows c.push_firsts.new.rows _ c.requires.long c.loop-segment-test.true
    c.index-texts-segment.is c.index-places-segment.is c.loop-segment.invariant
    (keys-read c.loop-segment.rows c.push_firsts.new.rows c.loop-segment.segment c.index-texts-segment.result
    c.ords.result.now c.index-places-segment.result.items c.deref.result.now c.ords.ensures c.deref.ensures.value
    c.in_ok-push_firsts.ensures)

pub returns : goal.returns
returns c =
    terms-end c.args.texts.now c.args.places.now c.loop-segment.segment c.loop-segment.rows _ c.loop-segment-test.false
    c.loop-segment.invariant
