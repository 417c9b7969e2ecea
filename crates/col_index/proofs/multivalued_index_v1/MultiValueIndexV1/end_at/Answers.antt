use Rattle.std.proofs.Common.{◌<◌, ◌^◌, length, sym, ◌∙◌, arith}
use Rattle.col_common.specs.Ascending.{differences}
use Rattle.col_index.proofs.OldRowLemmas.{old-long}
use Rattle.col_index.proofs.OldWalkLemmas.{next-behind, next-hint, read-end}
use Rattle.col_index.proofs.multivalued_index_v1.MultiValueIndexV1.end_at.Goals as goal

pub overflow_add-result : goal.overflow_add-result
overflow_add-result c =
    let counts = differences c.args.self.now in
    let old = c.offsets_never_fall.ensures in
    let small : length counts < 2 ^ 32 = omega (arith, old-long c.args.self.now old, old.few) in
    omega (arith, (next-behind counts small _ c.in-Some.row (sym c.in-Some.ensures.row)).small)

pub returns-in-Some-clause-end : goal.returns-in-Some-clause-end
returns-in-Some-clause-end c =
    c.in-Some.ensures.«end»
    ∙ read-end c.args.self.now c.offsets_never_fall.ensures c.args.place _ c.first_from-from.ensures

pub returns-in-Some-clause-hint : goal.returns-in-Some-clause-hint
returns-in-Some-clause-hint c =
    let counts = differences c.args.self.now in
    let old = c.offsets_never_fall.ensures in
    let small : length counts < 2 ^ 32 = omega (arith, old-long c.args.self.now old, old.few) in
    next-hint counts small c.args.place _ c.in-Some.row c.first_from-from.ensures (sym c.in-Some.ensures.row)

pub returns-in-None-clause-end : goal.returns-in-None-clause-end
returns-in-None-clause-end c =
    c.in-None.ensures.«end»
    ∙ read-end c.args.self.now c.offsets_never_fall.ensures c.args.place _ c.first_from-from.ensures
