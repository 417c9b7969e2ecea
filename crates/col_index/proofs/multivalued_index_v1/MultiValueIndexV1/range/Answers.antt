use Rattle.std.proofs.Common.{◌≡◌, ◌<◌, ◌+◌, Some, slice_get, length, ap, sym, ◌∙◌, subst, rules, arith}
use Rattle.std.proofs.lemmas.Option.{get_or_from_slice_get}
use Rattle.col_common.specs.Ascending.{differences}
use Rattle.col_numbers.specs.Readers.{list_of}
use Rattle.col_index.specs.Offsets.{AreOldOffsets}
use Rattle.col_index.proofs.OldRowLemmas.{old-long, old-range}
use Rattle.col_index.proofs.OldStartLemmas.{old-fits}
use Rattle.col_index.proofs.multivalued_index_v1.MultiValueIndexV1.range.Goals as goal

pub get_pair-start-requires : goal.get_pair-start-requires
get_pair-start-requires c =
    let old = subst AreOldOffsets c.self.view_is c.self.invariant in
    omega (
      arith,
      c.if-doc_id-num_docs.false,
      c.num_docs.ensures,
      old-long c.args.self.now old,
      ap length c.self.view_is,
    )

pub overflow_cast-result : goal.overflow_cast-result
overflow_cast-result c =
    let small = old-fits (list_of c.self.inside.start_index_column) c.args.doc_id c.get_pair-start.result.0 c.self.invariant
    c.get_pair-start.ensures.first in
    search rules

pub overflow_cast-result-2 : goal.overflow_cast-result-2
overflow_cast-result-2 c =
    let small = old-fits (list_of c.self.inside.start_index_column) (c.args.doc_id + 1) c.get_pair-start.result.1 c.self.invariant
    c.get_pair-start.ensures.second in
    search rules

pub returns-clause-start : goal.returns-clause-start
returns-clause-start c =
    let xs = c.args.self.now in
    let old = subst AreOldOffsets c.self.view_is c.self.invariant in
    let inside : c.args.doc_id < length (differences xs) = omega (arith, c.if-doc_id-num_docs.false, c.num_docs.ensures) in
    let read : slice_get xs c.args.doc_id ≡ Some c.get_pair-start.result.0 =
    subst (λ ys. slice_get ys c.args.doc_id ≡ Some c.get_pair-start.result.0) c.self.view_is c.get_pair-start.ensures.first in
    sym (ap (λ r. r.0) (old-range xs old c.args.doc_id inside)
    ∙ get_or_from_slice_get xs c.args.doc_id c.get_pair-start.result.0 0 read)

pub returns-clause-end : goal.returns-clause-end
returns-clause-end c =
    let xs = c.args.self.now in
    let old = subst AreOldOffsets c.self.view_is c.self.invariant in
    let inside : c.args.doc_id < length (differences xs) = omega (arith, c.if-doc_id-num_docs.false, c.num_docs.ensures) in
    let read : slice_get xs (c.args.doc_id + 1) ≡ Some c.get_pair-start.result.1 =
    subst (λ ys. slice_get ys (c.args.doc_id + 1) ≡ Some c.get_pair-start.result.1) c.self.view_is c.get_pair-start.ensures.second in
    sym (ap (λ r. r.1) (old-range xs old c.args.doc_id inside)
    ∙ get_or_from_slice_get xs (c.args.doc_id + 1) c.get_pair-start.result.1 0 read)
