use Rattle.std.proofs.Common.{ap, sym, ◌∙◌, subst}
use Rattle.col_common.specs.Replacing.{Replaces}
use Rattle.col_values.specs.Values.{hits_between}
use Rattle.col_values.proofs.HitLemmas.{no_lower, no_upper, moved_ends}
use Rattle.col_values.proofs.monotonic_column.MonotonicColumnColumnValues.get_row_ids_between.Goals as goal

pub returns-in_default : goal.returns-in_default
returns-in_default g c =
    let s = c.self.inside in
    let cx = g.External.PartialOrd.partial_cmp in
    let cy = g.Internal.PartialOrd.partial_cmp in
    c.clear.ensures.items
    ∙ sym (ap (λ b. hits_between cy b.values c.args.low c.args.high c.args.rows.start c.args.rows.«end») (sym c.self.view_is)
    ∙ no_lower cx cy (g.M.StrictlyMonotonicFn.is_in s.mapping) (g.M.StrictlyMonotonicFn.there s.mapping)
    (g.V.ColumnValues.values s.values) c.self.invariant.each c.args.low c.args.high c.in_default.ensures
    c.args.rows.start c.args.rows.«end»)

pub returns-in_default-at_most : goal.returns-in_default-at_most
returns-in_default-at_most g c =
    let s = c.self.inside in
    let cx = g.External.PartialOrd.partial_cmp in
    let cy = g.Internal.PartialOrd.partial_cmp in
    c.clear-in_default-at_most.ensures.items
    ∙ sym (ap (λ b. hits_between cy b.values c.args.low c.args.high c.args.rows.start c.args.rows.«end») (sym c.self.view_is)
    ∙ no_upper cx cy (g.M.StrictlyMonotonicFn.is_in s.mapping) (g.M.StrictlyMonotonicFn.there s.mapping)
    (g.V.ColumnValues.values s.values) c.self.invariant.each c.args.low c.args.high c.in_default-at_most.ensures
    c.args.rows.start c.args.rows.«end»)

pub returns : goal.returns
returns g c =
    let s = c.self.inside in
    let cx = g.External.PartialOrd.partial_cmp in
    let cy = g.Internal.PartialOrd.partial_cmp in
    let moved = moved_ends cx cy (g.M.StrictlyMonotonicFn.is_in s.mapping) (g.M.StrictlyMonotonicFn.there s.mapping)
    (g.V.ColumnValues.values s.values) c.self.invariant.each c.args.low c.args.high c.in-Some.first
    c.in-Some-at_most.last c.in-Some.ensures.tells c.in-Some-at_most.ensures.tells c.args.rows.start
    c.args.rows.«end» in
    subst (Replaces c.get_row_ids_between.result c.get_row_ids_between.new.hits.items)
    (sym (ap (λ b. hits_between cy b.values c.args.low c.args.high c.args.rows.start c.args.rows.«end») (sym c.self.view_is) ∙ moved))
    c.get_row_ids_between.ensures
