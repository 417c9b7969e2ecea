use Rattle.std.proofs.Common.{◌∙◌, Option, Some, List, ℕ, ap, subst, sym, arith}
use Rattle.col_common.specs.Decoding.{Refuses}
use Rattle.col_compact.proofs.ReadingLemmas.{ranges_at-some, ranges_at-none, ranges_at-zero}
use Rattle.col_compact.proofs.reading.read_space.Goals as goal

pub returns-in_default : goal.returns-in_default
returns-in_default c = ranges_at-none c.args.bytes.now (sym c.in_default.ensures)

pub returns-then-count-eq0 : goal.returns-then-count-eq0
returns-then-count-eq0 c = ranges_at-zero c.args.bytes.now c.in-Some.rest.now c.in-Some.count (sym c.in-Some.ensures) c.if-count-eq0.true

pub returns-in_ok-with_hints-in-Ok : goal.returns-in_ok-with_hints-in-Ok
returns-in_ok-with_hints-in-Ok c =
    ranges_at-some c.args.bytes.now c.in-Some.count c.in-Some.rest.now (sym c.in-Some.ensures)
    (omega (arith, c.if-count-eq0.false)) ∙ c.in-Ok.ensures.ranges
    ∙ ap (λ (rs : List (ℕ × ℕ)). Some (rs, c.in-Ok.rest.now)) (sym c.in_ok-with_hints-in-Ok.ensures)

pub returns-in-Err : goal.returns-in-Err
returns-in-Err c =
    subst (λ (o : Option (List (ℕ × ℕ) × List ℕ)). Refuses c.in-Err.refusal o)
    (sym (ranges_at-some c.args.bytes.now c.in-Some.count c.in-Some.rest.now (sym c.in-Some.ensures)
    (omega (arith, c.if-count-eq0.false)))) c.in-Err.ensures.ranges
