use Rattle.std.proofs.Common.{◌≡◌, ◌-◌, ◌≤◌, ◌++◌, refl, ap, ◌∙◌, arith}
use Rattle.col_index.specs.Offsets.{run, found_rows, positions_of}
use Rattle.col_index.proofs.PushLemmas.{begins-same, begins-more, pushes-stopped, docs-more, positions-more}
use Rattle.col_index.proofs.appending.push_run.Goals as goal

pub returns-in_err-push : goal.returns-in_err-push
returns-in_err-push c =
    pushes-stopped _ c.from_residual.result c.from_residual.ensures.1
    (begins-same _ _ _ _ c.in_err-push.ensures.items c.loop-position.invariant.docs)
    (begins-same _ _ _ _ refl c.loop-position.invariant.rows)

pub returns-in_err-push-2 : goal.returns-in_err-push-2
returns-in_err-push-2 c =
    pushes-stopped _ c.from_residual-in_err-push-2.result c.from_residual-in_err-push-2.ensures.1
    (begins-more _ _ _ _ _ c.in_ok-push.ensures.items c.loop-position.invariant.docs)
    (begins-same _ _ _ _ c.in_err-push-2.ensures.items c.loop-position.invariant.rows)

pub loop-position-preserved : goal.loop-position-preserved
loop-position-preserved c =
    let h : c.args.start ≤ c.loop-position.position = omega arith in
    record {
      within = omega arith;
      docs = docs-more _ _ _ c.args.doc c.args.start c.loop-position.position h c.loop-position.invariant.docs c.in_ok-push.ensures.items;
      rows =
          positions-more _ _ _ c.args.doc c.args.start c.loop-position.position h c.loop-position.invariant.rows
          c.in_ok-push-2.ensures.items;
    }

pub returns : goal.returns
returns c =
    let all : c.loop-position.position - c.args.start ≡ c.args.end - c.args.start = omega arith in
    record {
      docs = c.loop-position.invariant.docs ∙ ap (λ n. c.args.docs_out.now.items ++ found_rows (run c.args.doc c.args.start n)) all;
      rows = c.loop-position.invariant.rows ∙ ap (λ n. c.args.rows_out.now.items ++ positions_of (run c.args.doc c.args.start n)) all;
      err = tt;
    }
