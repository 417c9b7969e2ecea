use Rattle.std.proofs.Common.{sym, ◌∙◌}
use Rattle.col_terms.proofs.CutLemmas.{turn-falls, turn-long, turn-unordered, turn-more, turn-end}
use Rattle.col_terms.proofs.table.are_terms.Goals as goal

pub returns-then-end-start : goal.returns-then-end-start
returns-then-end-start c =
    turn-falls c.args.num_terms c.args.ends.now c.args.text.now c.loop-i.i c.loop-i.start c.number_at-end.result _
    c.loop-i-test.true c.number_at-end.ensures c.loop-i.invariant.test c.if-end-start.true

pub returns-then-end-text : goal.returns-then-end-text
returns-then-end-text c =
    turn-long c.args.num_terms c.args.ends.now c.args.text.now c.loop-i.i c.loop-i.start c.number_at-end.result _
    c.loop-i-test.true c.number_at-end.ensures c.loop-i.invariant.test c.loop-i.invariant.within c.if-end-text.true

pub returns-then-not-follows : goal.returns-then-not-follows
returns-then-not-follows c =
    turn-unordered c.args.num_terms c.args.ends.now c.args.text.now c.loop-i.i c.loop-i.start c.number_at-end.result
    _ c.loop-i-test.true c.number_at-end.ensures c.loop-i.invariant.test
    (sym c.follows.ensures ∙ c.if-not-follows.true)

pub loop-i-preserved : goal.loop-i-preserved
loop-i-preserved c = record {
  test =
      turn-more c.args.num_terms c.args.ends.now c.args.text.now c.loop-i.i c.loop-i.start c.number_at-end.result _
      c.loop-i-test.true c.number_at-end.ensures c.loop-i.invariant.test c.if-end-start.false c.if-end-text.false
      (sym c.follows.ensures ∙ c.if-not-follows.false);
  within = c.if-end-text.false;
}

pub returns : goal.returns
returns c =
    turn-end c.args.num_terms c.args.ends.now c.args.text.now c.loop-i.i c.loop-i.start _ c.loop-i-test.false
    c.loop-i.invariant.within c.loop-i.invariant.test
