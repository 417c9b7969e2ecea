use Rattle.std.proofs.Common.{sym, ◌∙◌}
use Rattle.col_terms.specs.TermTable.{terms_of}
use Rattle.col_terms.proofs.TableLemmas.{table_ascending}
use Rattle.col_terms.proofs.PrefixLemmas.{ending-has, ending-lacks}
use Rattle.col_terms.proofs.table.prefix_end.Goals as goal

pub loop-low-preserved-then-starts_with : goal.loop-low-preserved-then-starts_with
loop-low-preserved-then-starts_with c =
    ending-has (terms_of c.args.bytes.now) c.args.prefix.now c.args.start c.requires.first c.loop-low.low
    c.loop-low.high c.term_in.result.now (table_ascending c.args.bytes.now c.args.num_terms c.requires.table)
    c.loop-low.invariant c.loop-low-test.true c.term_in.ensures
    (sym c.starts_with.ensures.value ∙ c.if-starts_with.true)

pub loop-low-preserved : goal.loop-low-preserved
loop-low-preserved c =
    ending-lacks (terms_of c.args.bytes.now) c.args.prefix.now c.args.start c.requires.first c.loop-low.low
    c.loop-low.high c.term_in.result.now (table_ascending c.args.bytes.now c.args.num_terms c.requires.table)
    c.loop-low.invariant c.loop-low-test.true c.term_in.ensures
    (sym c.starts_with.ensures.value ∙ c.if-starts_with.false)
