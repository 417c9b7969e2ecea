use Rattle.std.proofs.Common.{subst, sym, ◌∙◌}
use Rattle.col_numbers.specs.Estimators.{estimator_code}
use Rattle.col_numbers.specs.Written.{HasBest}
use Rattle.col_numbers.proofs.ChoiceLemmas.{best-same, best-none, best-less, best-not_less}
use Rattle.col_numbers.proofs.serialize.better.Goals as goal

pub returns-in_default : goal.returns-in_default
returns-in_default c xs codecs best all same = best-same xs codecs _ c.args.best (sym c.in_default.is ∙ same) best

pub returns-then-next-held : goal.returns-then-next-held
returns-then-next-held c xs codecs best all same =
    let held = subst (HasBest xs codecs) c.in-Some-best.is best in
    let here = sym same ∙ c.in-Some.is in (
      best-less xs codecs (estimator_code c.args.estimator) c.in-Some.num_bytes
          (estimator_code c.in-Some-best.held.estimator) c.in-Some-best.held.num_bytes here held.0 held.1.estimated
          c.if-next-held.true,
      record { finalized = all; estimated = here },
    )

pub returns-else-next-held : goal.returns-else-next-held
returns-else-next-held c xs codecs best all same =
    let held = subst (HasBest xs codecs) c.in-Some-best.is best in (
      best-not_less xs codecs (estimator_code c.args.estimator) c.in-Some.num_bytes
          (estimator_code c.in-Some-best.held.estimator) c.in-Some-best.held.num_bytes (sym same ∙ c.in-Some.is)
          held.0 held.1.estimated c.if-next-held.false,
      held.1,
    )

pub returns-in_default-best : goal.returns-in_default-best
returns-in_default-best c xs codecs best all same =
    let here = sym same ∙ c.in-Some.is in (
      best-none xs codecs (estimator_code c.args.estimator) c.in-Some.num_bytes here
          (subst (HasBest xs codecs) c.in_default-best.is best),
      record { finalized = all; estimated = here },
    )
