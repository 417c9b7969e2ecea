use Rattle.std.proofs.Common.{sym, ap, ◌∙◌, arith}
use Rattle.std.proofs.lemmas.Bool.{and_from}
use Rattle.std.proofs.lemmas.List.Folds.{list_all_at, list_all_more}
use Rattle.std.proofs.lemmas.Option.{get_or_from_slice_get}
use Rattle.col_numbers.specs.Readers.{list_of}
use Rattle.col_numbers.proofs.num_values.is_each_image.Goals as goal

pub returns-then-not-is_image : goal.returns-then-not-is_image
returns-then-not-is_image g c =
    let is_code = g.T.MonotonicallyMappableToU64.is_code in
    let xs = list_of c.args.values.now in
    let v = c.get_val.result in
    sym (list_all_at is_code xs c.loop-idx.idx v (omega arith) (
    ap is_code (get_or_from_slice_get xs c.loop-idx.idx v v c.get_val.ensures) ∙ sym c.is_image.ensures
    ∙ c.if-not-is_image.true))

pub loop-idx-preserved : goal.loop-idx-preserved
loop-idx-preserved g c =
    let is_code = g.T.MonotonicallyMappableToU64.is_code in
    let xs = list_of c.args.values.now in
    let v = c.get_val.result in
    list_all_more is_code xs c.loop-idx.idx v (omega arith)
    ∙ and_from _ _ c.loop-idx.invariant (ap is_code (get_or_from_slice_get xs c.loop-idx.idx v v c.get_val.ensures)
    ∙ sym c.is_image.ensures ∙ c.if-not-is_image.false)
