use Rattle.std.proofs.Common.{rules}
use Rattle.std.specs.Ordering.{is_lt, is_le}
use Rattle.std.proofs.lemmas.Fn.{always_returns_same}
use Rattle.col_model.specs.Category.{slot_cmp}
use Rattle.col_merge_plan.proofs.RunLemmas.{lt-partitioned, le-partitioned, in-order, run-found}
use Rattle.col_merge_plan.proofs.segments.places_of.Goals as goal

pub returns-clause-ordered : goal.returns-clause-ordered
returns-clause-ordered c =
    let slot = c.args.slot.now in
    let placed = c.args.placed.now in
    let low = c.partition_point-start in
    let high = c.partition_point-end in
    in-order slot placed c.requires low.result high.result high.ensures.bound
    (low.ensures.partitioned (λ p. is_lt (slot_cmp p.0 slot)) (always_returns_same _ _ _ (λ a r f called. search rules))
    (lt-partitioned slot placed c.requires))
    (high.ensures.partitioned (λ p. is_le (slot_cmp p.0 slot)) (always_returns_same _ _ _ (λ a r f called. search rules))
    (le-partitioned slot placed c.requires))
    low.ensures.bound (slot, 0)

pub returns-clause-places : goal.returns-clause-places
returns-clause-places c =
    let slot = c.args.slot.now in
    let placed = c.args.placed.now in
    let low = c.partition_point-start in
    let high = c.partition_point-end in
    run-found slot placed c.requires low.result high.result high.ensures.bound
    (low.ensures.partitioned (λ p. is_lt (slot_cmp p.0 slot)) (always_returns_same _ _ _ (λ a r f called. search rules))
    (lt-partitioned slot placed c.requires))
    (high.ensures.partitioned (λ p. is_le (slot_cmp p.0 slot)) (always_returns_same _ _ _ (λ a r f called. search rules))
    (le-partitioned slot placed c.requires))
    low.ensures.bound (slot, 0)
