use Rattle.col_common.specs.Replacing.{Replaces}
use Rattle.col_numbers.specs.Readers.{list_of}
use Rattle.col_numbers.proofs.ViewLemmas.{none_from, none_up_to, between_moved}
use Rattle.col_numbers.proofs.num_view.NumViewColumnValues.get_row_ids_between.Goals as goal

pub returns-in_default : goal.returns-in_default
returns-in_default g c =
    none_from g.met.T.MonotonicallyMappableToU64.laws (g.met.M.StrictlyMonotonicFn.laws c.self.inside.mapping)
    (list_of c.self.inside.values) c.self.invariant c.args.self.now c.self.view_is c.args.low c.args.high
    c.to_u64.result c.known.ensures c.to_u64.ensures c.in_default.ensures c.clear.new.self.items
    c.clear.ensures.items c.args.rows.start c.args.rows.«end»

pub returns-in_default-at_most : goal.returns-in_default-at_most
returns-in_default-at_most g c =
    none_up_to g.met.T.MonotonicallyMappableToU64.laws (g.met.M.StrictlyMonotonicFn.laws c.self.inside.mapping)
    (list_of c.self.inside.values) c.self.invariant c.args.self.now c.self.view_is c.args.low c.args.high
    c.to_u64-2.result c.known-2.ensures c.to_u64-2.ensures c.in_default-at_most.ensures
    c.clear-in_default-at_most.new.self.items c.clear-in_default-at_most.ensures.items c.args.rows.start
    c.args.rows.«end»

pub returns : goal.returns
returns g c =
    between_moved g.met.T.MonotonicallyMappableToU64.laws (g.met.M.StrictlyMonotonicFn.laws c.self.inside.mapping)
    (list_of c.self.inside.values) c.self.invariant c.args.self.now c.self.view_is c.args.low c.args.high
    c.to_u64.result c.to_u64-2.result c.in-Some.first c.in-Some-at_most.last c.known.ensures c.to_u64.ensures
    c.in-Some.ensures.tells c.known-2.ensures c.to_u64-2.ensures c.in-Some-at_most.ensures.tells
    (Replaces c.get_row_ids_between.result c.get_row_ids_between.new.hits.items) c.args.rows.start
    c.args.rows.«end» c.get_row_ids_between.ensures
