use Rattle.std.proofs.Common.{◌+◌, ◌<◌, ◌^◌, length, sym, ap, ◌∙◌, arith}
use Rattle.col_common.specs.Ascending.{differences}
use Rattle.col_model.specs.Positions.{rank, rows_with_value}
use Rattle.col_index.proofs.OldRowLemmas.{old-long}
use Rattle.col_index.proofs.OldWalkLemmas.{hint-told, next-behind}
use Rattle.col_index.proofs.RankLaws.{rank-le-length, slice_get-none}
use Rattle.col_index.proofs.SearchLemmas.{rank_of_zero}
use Rattle.col_index.proofs.multivalued_index_v1.MultiValueIndexV1.first_from.Goals as goal

pub returns-then-from-ne0 : goal.returns-then-from-ne0
returns-then-from-ne0 c = hint-told (rows_with_value (differences c.args.self.now)) c.args.from c.args.place c.requires c.if-from-ne0.true

pub loop-passed-init : goal.loop-passed-init
loop-passed-init c = record { ranked = sym (rank_of_zero (rows_with_value (differences c.args.self.now))) }

pub overflow_add-behind : goal.overflow_add-behind
overflow_add-behind c =
    let counts = differences c.args.self.now in
    let old = c.offsets_never_fall.ensures in
    let small : length counts < 2 ^ 32 = omega (arith, old-long c.args.self.now old, old.few) in
    omega (arith, (next-behind counts small _ c.in-Some.row (sym c.in-Some.ensures.row)).small)

pub returns-in-None : goal.returns-in-None
returns-in-None c =
    let rows = rows_with_value (differences c.args.self.now) in
    let past = slice_get-none rows (rank rows c.loop-passed.behind) (sym c.in-None.ensures.row) in
    omega (arith, past, c.loop-passed.invariant.ranked, rank-le-length rows c.loop-passed.behind)

pub loop-passed-preserved : goal.loop-passed-preserved
loop-passed-preserved c =
    let counts = differences c.args.self.now in
    let old = c.offsets_never_fall.ensures in
    let small : length counts < 2 ^ 32 = omega (arith, old-long c.args.self.now old, old.few) in
    record {
      ranked =
          (next-behind counts small _ c.in-Some.row (sym c.in-Some.ensures.row)).ranked
          ∙ ap (λ n. n + 1) c.loop-passed.invariant.ranked;
    }

pub returns : goal.returns
returns c =
    let rows = rows_with_value (differences c.args.self.now) in
    omega (arith, c.loop-passed.invariant.ranked, rank-le-length rows c.loop-passed.behind)
