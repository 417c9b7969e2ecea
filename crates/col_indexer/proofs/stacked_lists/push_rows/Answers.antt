use Rattle.std.proofs.Common.{◌+◌, refl, sym, ap, ◌∙◌, arith}
use Rattle.std.proofs.lemmas.Option.{slice_get_within}
use Rattle.col_model.specs.Positions.{rows_with_value}
use Rattle.col_index.specs.Indexes.{shape_of}
use Rattle.col_indexer.specs.Counted.{counts_in}
use Rattle.col_indexer.proofs.CountedLemmas.{length-rows_with_value, row-below}
use Rattle.col_indexer.proofs.CollectedLemmas.{appended-more, appended-all}
use Rattle.col_indexer.proofs.NextRowLemmas.{rank-first, rank-after}
use Rattle.col_indexer.proofs.stacked_lists.push_rows.Goals as goal

pub loop-row-init : goal.loop-row-init
loop-row-init c = record { ranked = rank-first (counts_in c.args.num_rows (shape_of c.args.column_index.now)); whole = refl }

pub overflow_cast-before : goal.overflow_cast-before
overflow_cast-before c =
    let counts = counts_in c.args.num_rows (shape_of c.args.column_index.now) in
    let below = row-below counts c.loop-row.place c.in-Some.row (sym c.row_at.ensures ∙ c.in-Some.is) in
    omega (arith, below, c.from.ensures, c.requires)

pub overflow_add-place : goal.overflow_add-place
overflow_add-place c =
    let counts = counts_in c.args.num_rows (shape_of c.args.column_index.now) in
    let inside = slice_get_within (rows_with_value counts) c.loop-row.place c.in-Some.row (sym c.row_at.ensures ∙ c.in-Some.is) in
    omega (arith, inside, length-rows_with_value counts, c.requires)

pub overflow_add-from : goal.overflow_add-from
overflow_add-from c =
    let counts = counts_in c.args.num_rows (shape_of c.args.column_index.now) in
    let below = row-below counts c.loop-row.place c.in-Some.row (sym c.row_at.ensures ∙ c.in-Some.is) in
    omega (arith, below, c.requires)

pub loop-row-smaller : goal.loop-row-smaller
loop-row-smaller c =
    let counts = counts_in c.args.num_rows (shape_of c.args.column_index.now) in
    let inside = slice_get_within (rows_with_value counts) c.loop-row.place c.in-Some.row (sym c.row_at.ensures ∙ c.in-Some.is) in
    omega (arith, inside)

pub loop-row-preserved : goal.loop-row-preserved
loop-row-preserved c =
    let counts = counts_in c.args.num_rows (shape_of c.args.column_index.now) in
    let read = sym c.row_at.ensures ∙ c.in-Some.is in
    record {
      ranked = rank-after counts c.loop-row.place c.in-Some.row read;
      whole =
          appended-more c.args.before c.loop-row.place c.in-Some.row _ (rows_with_value counts) c.loop-row.rows.items
          _ (ap (λ n. c.args.before + n) c.from.ensures) c.in_ok-push.ensures.items read
          ∙ c.loop-row.invariant.whole;
    }

pub returns : goal.returns
returns c =
    let counts = counts_in c.args.num_rows (shape_of c.args.column_index.now) in
    appended-all c.args.before c.loop-row.place (rows_with_value counts) c.loop-row.rows.items
    (sym c.row_at.ensures ∙ c.in_default.is) ∙ c.loop-row.invariant.whole
