use Rattle.std.proofs.Common.{◌≡◌, ◌<◌, length, map, ap, arith}
use Rattle.std.proofs.lemmas.List.{length-map}
use Rattle.col_values.specs.Bounds.{IsMappedBound}
use Rattle.col_values.specs.Values.{Encloses}
use Rattle.col_values.proofs.MonotonicLemmas.{encloses_mapped, exact_mapped}
use Rattle.col_values.proofs.monotonic_column.monotonic_map_column.Goals.{then-num_vals-eq0, else-num_vals-eq0}
use Rattle.col_values.proofs.monotonic_column.monotonic_map_column.Goals as goal

-- the bounds enclose what is mapped
encloses : (g : _) (c : goal.Joined-num_vals-eq0 g)
    → Encloses g.Internal.PartialOrd.partial_cmp c.if-num_vals-eq0.min_value.0 c.if-num_vals-eq0.min_value.1
    (map (g.M.StrictlyMonotonicFn.there c.args.map) (g.V.ColumnValues.values c.args.values))
encloses g c =
    let values = g.V.ColumnValues.values c.args.values in
    elim c.if-num_vals-eq0.branch [
      | then-num_vals-eq0 w ↦
          let none : length (map (g.M.StrictlyMonotonicFn.there c.args.map) values) ≡ 0 = simp length-map (omega arith) in
          record { below = λ k d h. absurd (omega (arith, none)); above = λ k d h. absurd (omega (arith, none)) }
      | else-num_vals-eq0 w ↦
          let some : 0 < length values = omega arith in
          rw (w.min_value-is, w.mapping.ensures, w.mapping-else-num_vals-eq0.ensures)
          (encloses_mapped (g.met.M.StrictlyMonotonicFn.laws c.args.map) values _ _ c.requires.each
          (c.requires.least _ some w.min_value.ensures.value) (c.requires.greatest _ some w.max_value.ensures.value)
          record { below = w.min_value.ensures.encloses; above = w.max_value.ensures.encloses })
    ]

pub invariant_of-result : goal.invariant_of-result
invariant_of-result g c = record { each = c.requires.each; encloses = encloses g c }

low_bound : (g : _) (c : goal.Joined-num_vals-eq0 g)
    → IsMappedBound g.Internal.Default.is_default (g.M.StrictlyMonotonicFn.there c.args.map)
    (g.V.ColumnValues.values c.args.values) (g.V.ColumnValues.IsLeast c.args.values) c.if-num_vals-eq0.min_value.0
low_bound g c = elim c.if-num_vals-eq0.branch [
  | then-num_vals-eq0 w ↦ rw w.min_value-is record {
    without_values = λ e. w.default.ensures;
    mapped =
        λ some. absurd (omega (arith, some));
  }
  | else-num_vals-eq0 w ↦ rw w.min_value-is record {
    without_values = λ e. absurd (omega (arith, ap length e));
    mapped = λ some. (w.min_value.result, w.min_value.ensures.value, w.mapping.ensures);
  }
]

high_bound : (g : _) (c : goal.Joined-num_vals-eq0 g)
    → IsMappedBound g.Internal.Default.is_default (g.M.StrictlyMonotonicFn.there c.args.map)
    (g.V.ColumnValues.values c.args.values) (g.V.ColumnValues.IsGreatest c.args.values)
    c.if-num_vals-eq0.min_value.1
high_bound g c = elim c.if-num_vals-eq0.branch [
  | then-num_vals-eq0 w ↦ rw w.min_value-is record {
    without_values = λ e. w.default-then-num_vals-eq0.ensures;
    mapped = λ some. absurd (omega (arith, some));
  }
  | else-num_vals-eq0 w ↦ rw w.min_value-is record {
    without_values = λ e. absurd (omega (arith, ap length e));
    mapped = λ some. (w.max_value.result, w.max_value.ensures.value, w.mapping-else-num_vals-eq0.ensures);
  }
]

pub returns-clause-exact : goal.returns-clause-exact
returns-clause-exact g c least greatest =
    exact_mapped g.Internal.Default.is_default (g.M.StrictlyMonotonicFn.there c.args.map) (g.V.ColumnValues.values c.args.values) _ _
    (g.V.ColumnValues.IsLeast c.args.values) (g.V.ColumnValues.IsGreatest c.args.values) (low_bound g c)
    (high_bound g c) (encloses g c) least greatest
