use Rattle.std.proofs.Common.{◌-◌, arith, sym}
use Rattle.col_common.proofs.VIntReadingLemmas.{vint_u128-long, vint_u128-zero_behind, read-last, read-more, read-past, read-whole}
use Rattle.col_common.proofs.vint.read_vint_u128.Goals as goal

pub returns-in_err-end : goal.returns-in_err-end
returns-in_err-end c = rw c.from_residual.ensures (sym (vint_u128-long c.args.bytes.now c.in_err-end.ensures.none))

pub returns-then-value-eq0 : goal.returns-then-value-eq0
returns-then-value-eq0 c = let known = c.in_ok-end.ensures in
    sym (vint_u128-zero_behind c.args.bytes.now c.in_ok-end.end c.if-end-gt0.true known.found known.before (omega (arith, known.last)))

pub loop-index-init : goal.loop-index-init
loop-index-init c = let known = c.in_ok-end.ensures in
    record {
      fits = omega arith;
      so_far = read-last _ _ _ known.found known.last (omega (arith, known.last)) (λ p. grind (arith, c.else-end-gt0.either));
    }

pub returns-in_err-checked_mul : goal.returns-in_err-checked_mul
returns-in_err-checked_mul c = let known = c.in_ok-end.ensures in
    rw c.from_residual-in_err-checked_mul.ensures (sym (read-past c.args.bytes.now c.in_ok-end.end
    (c.loop-index.index - 1) c.loop-index.index c.loop-index.value (omega arith) known.found known.before
    (omega (arith, c.in_err-checked_mul.ensures)) c.loop-index.invariant.so_far))

pub returns-in_err-value : goal.returns-in_err-value
returns-in_err-value c = let known = c.in_ok-end.ensures in
    rw c.from_residual-in_err-value.ensures (sym (read-past c.args.bytes.now c.in_ok-end.end
    (c.loop-index.index - 1) c.loop-index.index c.loop-index.value (omega arith) known.found known.before
    (omega (arith, c.in_err-value.ensures, c.in_ok-checked_mul.ensures)) c.loop-index.invariant.so_far))

pub loop-index-preserved : goal.loop-index-preserved
loop-index-preserved c = let known = c.in_ok-end.ensures in
    record {
      fits = omega (arith, c.in_ok-value.ensures);
      so_far =
          read-more _ _ _ _ c.loop-index.value _ (omega arith) known.found known.before
          (omega (arith, c.in_ok-value.ensures, c.in_ok-checked_mul.ensures)) c.loop-index.invariant.so_far;
    }

pub returns : goal.returns
returns c = sym (read-whole c.args.bytes.now c.in_ok-end.end _ _ (omega arith) (omega arith) c.loop-index.invariant.so_far)
