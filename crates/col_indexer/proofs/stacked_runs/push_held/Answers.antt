use Rattle.std.proofs.Common.{◌+◌, refl, sym, ap, subst, arith}
use Rattle.std.proofs.lemmas.Bool.{and_parts}
use Rattle.col_common.specs.Ascending.{is_rising, are_below}
use Rattle.col_model.specs.Index.{RowSet, runs_of, set_counts}
use Rattle.col_model.proofs.RowRunLaws.{run-within}
use Rattle.col_index.specs.Sets.{AreRows}
use Rattle.col_indexer.specs.Counted.{rows_behind}
use Rattle.col_indexer.specs.Runs.{HaveMore}
use Rattle.col_indexer.proofs.HeldRunLemmas.{held-more, held-all}
use Rattle.col_indexer.proofs.RunStackLemmas.{more-none}
use Rattle.col_indexer.proofs.stacked_runs.push_held.Goals as goal

pub loop-at-init : goal.loop-at-init
loop-at-init c = more-none c.args.runs.now

pub push_span-requires : goal.push_span-requires
push_span-requires c =
    let s = c.in-Some.held in
    let rise = subst AreRows (sym c.in-Some.ensures) c.rows_rise.ensures in
    let parts = and_parts (is_rising s.rows) (are_below s.num_rows s.rows) rise in
    let within = run-within s.num_rows s.rows c.loop-at.at _ parts.0 parts.1 c.run-start.ensures in
    omega (arith, within, c.requires, ap (λ (set : RowSet). set.num_rows) c.in-Some.ensures, c.from.ensures)

pub loop-at-preserved : goal.loop-at-preserved
loop-at-preserved c =
    let s = c.in-Some.held in
    held-more c.args.runs.now _ _ (runs_of s.rows) c.args.before c.loop-at.at _ _ c.loop-at.invariant c.run-start.ensures
    (ap (λ n. c.args.before + n) c.from.ensures) c.in_ok-push_span.ensures

pub returns : goal.returns
returns c =
    let s = c.in-Some.held in
    let rise = subst AreRows (sym c.in-Some.ensures) c.rows_rise.ensures in
    λ added. subst (λ set. HaveMore c.args.runs.now c.loop-at.runs (rows_behind c.args.before (set_counts set))) c.in-Some.ensures
    (held-all c.args.runs.now _ s (runs_of s.rows) c.args.before c.loop-at.at rise refl
    (omega (arith, c.loop-at-test.false, c.num_runs-at-end.ensures)) c.loop-at.invariant)
