use Rattle.std.proofs.Common.{◌≤◌, arith, ℕ, length, ◌≡◌}
use Rattle.col_common.specs.VInt.{vint_bytes}
use Rattle.col_model.proofs.BlockLaws.{vint_bytes-most}
use Rattle.col_codecs.proofs.column_stats.ColumnStats.num_bytes.Goals as goal

-- a count of a number's bytes is small
few : (count n : ℕ) → count ≡ length (vint_bytes n) → count ≤ 19
few count n e = omega (arith, e, vint_bytes-most n)

pub overflow_add-result : goal.overflow_add-result
overflow_add-result c = omega (arith, few _ _ c.num_bytes.ensures, few _ _ c.num_bytes-2.ensures)

pub overflow_add-result-2 : goal.overflow_add-result-2
overflow_add-result-2 c = omega (arith, few _ _ c.num_bytes.ensures, few _ _ c.num_bytes-2.ensures, few _ _ c.num_bytes-3.ensures)

pub overflow_add-result-3 : goal.overflow_add-result-3
overflow_add-result-3 c =
    omega (
      arith,
      few _ _ c.num_bytes.ensures,
      few _ _ c.num_bytes-2.ensures,
      few _ _ c.num_bytes-3.ensures,
      few _ _ c.num_bytes-4.ensures,
    )
