use Rattle.std.proofs.Common.{sym, ap, subst}
use Rattle.col_writer.specs.Places.{names_of, ArePlaced}
use Rattle.col_writer.proofs.PlaceLemmas.{placed-none}
use Rattle.col_writer.proofs.writer.named_columns.NamedColumns.new.Goals as goal

pub invariant_of-result : goal.invariant_of-result
invariant_of-result g c =
    subst (λ ns. ArePlaced ns c.new-2.result) (sym (ap names_of c.new.ensures.items)) (placed-none c.new-2.result c.new-2.ensures.empty)
