use Rattle.std.proofs.Common.{◌≡◌, ◌+◌, sym, rules, Some, slice_get}
use Rattle.std.proofs.lemmas.Option.{get_or_from_slice_get}
use Rattle.col_numbers.specs.Readers.{list_of}
use Rattle.col_index.proofs.StartLemmas.{start-fits}
use Rattle.col_index.proofs.multivalued_index_v2.MultiValueIndexV2.range_at.Goals as goal

pub overflow_cast-result : goal.overflow_cast-result
overflow_cast-result c =
    let small = start-fits _ (list_of c.self.inside.start_index_column) c.args.rank c.get_pair-start.result.0
    c.self.invariant.starts c.get_pair-start.ensures.first in
    search rules

pub overflow_cast-result-2 : goal.overflow_cast-result-2
overflow_cast-result-2 c =
    let small = start-fits _ (list_of c.self.inside.start_index_column) (c.args.rank + 1) c.get_pair-start.result.1
    c.self.invariant.starts c.get_pair-start.ensures.second in
    search rules

pub returns-clause-start : goal.returns-clause-start
returns-clause-start c =
    let starts = c.args.self.now.starts in
    let read : slice_get starts c.args.rank ≡ Some c.get_pair-start.result.0 = search rules in
    sym (get_or_from_slice_get starts c.args.rank c.get_pair-start.result.0 0 read)

pub returns-clause-end : goal.returns-clause-end
returns-clause-end c =
    let starts = c.args.self.now.starts in
    let read : slice_get starts (c.args.rank + 1) ≡ Some c.get_pair-start.result.1 = search rules in
    sym (get_or_from_slice_get starts (c.args.rank + 1) c.get_pair-start.result.1 0 read)
