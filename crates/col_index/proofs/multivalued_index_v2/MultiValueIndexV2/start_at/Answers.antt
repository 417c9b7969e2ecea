use Rattle.std.proofs.Common.{◌≡◌, sym, rules, Some, slice_get}
use Rattle.std.proofs.lemmas.Option.{get_or_from_slice_get}
use Rattle.col_numbers.specs.Readers.{list_of}
use Rattle.col_index.proofs.StartLemmas.{start-fits}
use Rattle.col_index.proofs.multivalued_index_v2.MultiValueIndexV2.start_at.Goals as goal

pub overflow_cast-result : goal.overflow_cast-result
overflow_cast-result c =
    let small = start-fits _ (list_of c.self.inside.start_index_column) c.args.rank c.get_val.result
    c.self.invariant.starts c.get_val.ensures in
    search rules

pub returns : goal.returns
returns c =
    let read : slice_get c.args.self.now.starts c.args.rank ≡ Some c.get_val.result = search rules in
    sym (get_or_from_slice_get c.args.self.now.starts c.args.rank c.get_val.result 0 read)
