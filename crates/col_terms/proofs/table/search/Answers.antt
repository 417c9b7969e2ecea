use Rattle.std.proofs.Common.{sym, ◌∙◌}
use Rattle.col_terms.specs.TermTable.{terms_of}
use Rattle.col_terms.proofs.TableLemmas.{table_ascending}
use Rattle.col_terms.proofs.SearchLemmas.{narrowed-less, narrowed-greater, narrowed-equal}
use Rattle.col_terms.proofs.table.search.Goals as goal

pub loop-low-preserved-in-Less : goal.loop-low-preserved-in-Less
loop-low-preserved-in-Less c =
    narrowed-less (terms_of c.args.bytes.now) c.args.key.now c.loop-low.low c.loop-low.high c.term_in.result.now
    (table_ascending c.args.bytes.now c.args.num_terms c.requires) c.loop-low.invariant c.loop-low-test.true
    c.term_in.ensures (sym c.compare.ensures ∙ c.in-Less.is)

pub returns-in-Equal-clause-found : goal.returns-in-Equal-clause-found
returns-in-Equal-clause-found c =
    narrowed-equal (terms_of c.args.bytes.now) c.args.key.now c.loop-low.low c.loop-low.high c.term_in.result.now
    (table_ascending c.args.bytes.now c.args.num_terms c.requires) c.loop-low.invariant c.loop-low-test.true
    c.term_in.ensures (sym c.compare.ensures ∙ c.in-Equal.is)

pub loop-low-preserved : goal.loop-low-preserved
loop-low-preserved c =
    narrowed-greater (terms_of c.args.bytes.now) c.args.key.now c.loop-low.low c.loop-low.high c.term_in.result.now
    (table_ascending c.args.bytes.now c.args.num_terms c.requires) c.loop-low.invariant c.loop-low-test.true
    c.term_in.ensures (sym c.compare.ensures ∙ c.in-Greater.is)
