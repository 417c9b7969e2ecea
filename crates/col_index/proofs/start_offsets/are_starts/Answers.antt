use Rattle.std.proofs.Common.{◌≡◌, ◌+◌, length, sym, ◌∙◌, arith}
use Rattle.std.proofs.lemmas.Option.{get_or_from_slice_get}
use Rattle.col_numbers.specs.Readers.{list_of}
use Rattle.col_index.proofs.StartLemmas.{rises-first, rises-fallen, rises-large, rises-more}
use Rattle.col_index.proofs.start_offsets.are_starts.Goals as goal

pub loop-at-init : goal.loop-at-init
loop-at-init c =
    let count : length (list_of c.args.starts.now) ≡ c.args.num_rows + 1 = omega arith in
    rises-first c.args.num_rows (list_of c.args.starts.now) count (
    get_or_from_slice_get (list_of c.args.starts.now) 0 c.get_val.result 0 c.get_val.ensures
    ∙ c.if-get_val-ne0.false)

pub returns-then-start-last : goal.returns-then-start-last
returns-then-start-last c =
    sym (c.loop-at.invariant
    ∙ rises-fallen (list_of c.args.starts.now) c.loop-at.last c.loop-at.at c.get_val-start.result
    c.get_val-start.ensures c.if-start-last.true)

pub returns-then-start-from : goal.returns-then-start-from
returns-then-start-from c =
    sym (c.loop-at.invariant
    ∙ rises-large (list_of c.args.starts.now) c.loop-at.last c.loop-at.at c.get_val-start.result
    c.get_val-start.ensures (omega arith))

pub loop-at-preserved : goal.loop-at-preserved
loop-at-preserved c =
    c.loop-at.invariant ∙ rises-more (list_of c.args.starts.now) c.loop-at.last c.loop-at.at c.get_val-start.result
    c.get_val-start.ensures c.if-start-last.false (omega arith)
