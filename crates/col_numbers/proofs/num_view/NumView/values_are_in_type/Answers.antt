use Rattle.std.proofs.Common.{subst}
use Rattle.std.specs.List.{All}
use Rattle.col_values.specs.Monotonic.{Passes}
use Rattle.col_numbers.specs.Readers.{list_of}
use Rattle.col_numbers.proofs.ViewLemmas.{all_known}
use Rattle.col_numbers.proofs.num_view.NumView.values_are_in_type.Goals as goal

pub returns : goal.returns
returns g c =
    subst (All (Passes g.T.MonotonicallyMappableToU64.in_type)) c.self.view_is
    (all_known g.met.T.MonotonicallyMappableToU64.laws (g.met.M.StrictlyMonotonicFn.laws c.self.inside.mapping)
    (list_of c.self.inside.values) c.self.invariant)
