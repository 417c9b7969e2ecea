use Rattle.std.proofs.Common.{Err, ap, refl, inl, inr}
use Rattle.col_common.proofs.reading.read_to_limit.Goals as goal

pub returns-in-Err-Failed-clause-cause : goal.returns-in-Err-Failed-clause-cause
returns-in-Err-Failed-clause-cause g c = record {
  later = c.in-Err-Failed.ensures.cause.later;
  read_fault = λ e. c.in-Err-Failed.ensures.cause.failed (ap Err c.in-Err-Failed.field-0-is);
  causes = inr refl;
}

pub returns-clause-cause : goal.returns-clause-cause
returns-clause-cause g c = record {
  later = c.in-Err-Memory.ensures.cause.later;
  read_fault = λ e. absurd (cc);
  causes = inl refl;
}
