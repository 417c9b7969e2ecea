use Rattle.std.proofs.Common.{◌<◌, length, arith}
use Rattle.col_numbers.specs.Readers.{list_of}
use Rattle.col_numbers.specs.Views.{IsLeastOf}
use Rattle.col_numbers.proofs.ViewLemmas.{least_is_seen, least_seen}
use Rattle.col_numbers.proofs.num_view.NumViewColumnValues.min_value.Goals as goal

pub see-requires : goal.see-requires
see-requires g c =
    least_is_seen g.met.T.MonotonicallyMappableToU64.laws (g.met.M.StrictlyMonotonicFn.laws c.self.inside.mapping)
    (list_of c.self.inside.values) c.min_value.result c.self.invariant
    (omega (arith, c.num_vals.ensures, c.if-num_vals-eq0.false)) c.min_value.ensures.value

-- what the least number is seen as
is_least : (g : _) (c : goal.After-see g) → IsLeastOf g.T.PartialOrd.partial_cmp g.T.Default.is_default c.args.self.now c.see.result
is_least g c =
    let some : 0 < length (list_of c.self.inside.values) = omega (arith, c.num_vals.ensures, c.if-num_vals-eq0.false) in
    rw (← c.self.view_is, c.see.ensures)
    (least_seen g.met.T.MonotonicallyMappableToU64.laws (g.met.M.StrictlyMonotonicFn.laws c.self.inside.mapping)
    g.T.Default.is_default (list_of c.self.inside.values) c.min_value.result c.self.invariant some
    c.min_value.ensures.value c.min_value.ensures.encloses)

pub returns-clause-value : goal.returns-clause-value
returns-clause-value = is_least

pub returns-clause-encloses : goal.returns-clause-encloses
returns-clause-encloses g c = (is_least g c).below
