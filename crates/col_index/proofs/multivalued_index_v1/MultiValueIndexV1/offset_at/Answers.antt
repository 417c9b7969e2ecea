use Rattle.std.proofs.Common.{◌≡◌, Some, slice_get, length, ap, sym, subst, rules, arith}
use Rattle.std.proofs.lemmas.Option.{get_or_from_slice_get}
use Rattle.col_numbers.specs.Readers.{list_of}
use Rattle.col_index.specs.Offsets.{AreOldOffsets}
use Rattle.col_index.proofs.OldRowLemmas.{old-long}
use Rattle.col_index.proofs.OldStartLemmas.{old-fits}
use Rattle.col_index.proofs.multivalued_index_v1.MultiValueIndexV1.offset_at.Goals as goal

pub get_val-requires : goal.get_val-requires
get_val-requires c =
    let old = subst AreOldOffsets c.self.view_is c.self.invariant in
    omega (arith, c.requires, old-long c.args.self.now old, ap length c.self.view_is)

pub overflow_cast-result : goal.overflow_cast-result
overflow_cast-result c =
    let small = old-fits (list_of c.self.inside.start_index_column) c.args.at c.get_val.result c.self.invariant c.get_val.ensures in
    search rules

pub returns : goal.returns
returns c =
    let read : slice_get c.args.self.now c.args.at ≡ Some c.get_val.result =
    subst (λ xs. slice_get xs c.args.at ≡ Some c.get_val.result) c.self.view_is c.get_val.ensures in
    sym (get_or_from_slice_get c.args.self.now c.args.at c.get_val.result 0 read)
