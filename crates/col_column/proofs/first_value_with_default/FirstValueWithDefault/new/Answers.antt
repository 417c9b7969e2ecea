use Rattle.std.proofs.Common.{ap, length, arith}
use Rattle.col_column.proofs.FirstLemmas.{enclosed_firsts, enclosed_defaults}
use Rattle.col_column.proofs.first_value_with_default.FirstValueWithDefault.new.Goals.{then-num_vals-eq0, else-num_vals-eq0}
use Rattle.col_column.proofs.first_value_with_default.FirstValueWithDefault.new.Goals as goal

pub invariant_of-result : goal.invariant_of-result
invariant_of-result g c =
    let s = c.args.column.shape in
    let xs = g.V.ColumnValues.values c.args.column.values in
    elim c.if-num_vals-eq0.branch [
      | then-num_vals-eq0 w ↦ rw w.min_value-is (enclosed_defaults g.met.T.Ord.total g.met.T.Ord.matches_partial_cmp
          c.args.default_value s xs (omega (
            arith,
            w.if-num_vals-eq0.true,
            c.num_vals.ensures,
            ap (λ v. length (g.V.ColumnValues.values v)) c.values.ensures,
          )))
      | else-num_vals-eq0 w ↦ rw (w.min_value-is, w.min.ensures, w.max.ensures)
          (enclosed_firsts g.met.T.Ord.total g.met.T.Ord.matches_partial_cmp c.args.default_value s xs
          w.min_value.result w.max_value.result
          (record { below = w.min_value.ensures.encloses; above = w.max_value.ensures.encloses }))
    ]
