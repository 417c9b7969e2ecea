use Rattle.std.proofs.Common.{inr, refl, arith}
use Rattle.std.proofs.lemmas.Result.{err_from_is_err_and}
use Rattle.col_model.specs.Refusal.{too_large}
use Rattle.col_segments.proofs.AddLemmas.{added-refused, added-too_large, added-ok}
use Rattle.col_segments.proofs.held.open_addable.Goals as goal

pub returns-in_err-opened-clause-segment : goal.returns-in_err-opened-clause-segment
returns-in_err-opened-clause-segment c =
    let p = err_from_is_err_and c.from_residual.result c.from_residual.ensures.1 in
    rw (p.1, p.2) record {
      ok = tt;
      refused = added-refused c.args.file c.args.held.now c.in_err-opened.field-0.0 c.in_err-opened.ensures.segment.refused;
    }

pub returns-then-num_alive-count_alive-clause-segment : goal.returns-then-num_alive-count_alive-clause-segment
returns-then-num_alive-count_alive-clause-segment c =
    let many =
    added-too_large c.args.file c.args.held.now c.in_ok-opened.opened.segment c.in_ok-opened.ensures.segment.ok
    (omega (arith, c.num_alive.ensures, c.count_alive.ensures, c.if-num_alive-count_alive.true)) in
    record { ok = tt; refused = inr (too_large, many, refl) }

pub returns-clause-segment : goal.returns-clause-segment
returns-clause-segment c = record {
  ok =
      added-ok c.args.file c.args.held.now c.in_ok-opened.opened.segment c.in_ok-opened.ensures.segment.ok
      (omega (arith, c.num_alive.ensures, c.count_alive.ensures, c.if-num_alive-count_alive.false));
  refused = tt;
}
