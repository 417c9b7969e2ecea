use Rattle.std.proofs.Common.{ℕ, ◌+◌, slice_index, sym, subst, arith}
use Rattle.std.proofs.lemmas.Option.{get_or_from_slice_get}
use Rattle.col_numbers.specs.Readers.{list_of}
use Rattle.col_index.specs.Ranks.{IsTableOf}
use Rattle.col_index.proofs.PartLemmas.{table_more}
use Rattle.col_index.proofs.SetLemmas.{row_below}
use Rattle.col_index.proofs.run_starts.nexts_of.Goals as goal

pub overflow_cast-get_val : goal.overflow_cast-get_val
overflow_cast-get_val c =
    let below = row_below (record { num_rows = c.args.num_rows; rows = list_of c.args.rows.now }) c.loop-at.at c.get_val.result
    c.requires c.get_val.ensures in
    omega (arith, below, c.ranges.num_rows.fits)

pub loop-at-preserved : goal.loop-at-preserved
loop-at-preserved c =
    let rows = list_of c.args.rows.now in
    let at = c.loop-at.at in
    let of : ℕ → ℕ = λ k. slice_index rows k in
    subst (IsTableOf of (at + 1)) (sym c.in_ok-push.ensures.items) (table_more of c.loop-at.nexts.items at c.get_val.result
    c.loop-at.invariant (sym (get_or_from_slice_get rows at c.get_val.result 0 c.get_val.ensures)))
