use Rattle.std.proofs.Common.{arith}
use Rattle.std.proofs.Common.{◌≡◌, length, get_or, ap}
use Rattle.col_common.specs.Ascending.{differences}
use Rattle.col_index.proofs.OldRowLemmas.{old-sum}
use Rattle.col_index.proofs.multivalued_index_v1.MultiValueIndexV1.row_of.Goals as goal

pub unreachable-requires : goal.unreachable-requires
unreachable-requires c =
    let xs = c.args.self.now in
    let last : c.loop-doc_id.doc_id ≡ length (differences xs) =
    omega (
      arith,
      c.loop-doc_id-test.false,
      c.num_docs-doc_id-end.ensures,
      c.requires.from,
      c.loop-doc_id.auto.doc_id-end (omega (arith, c.num_docs-doc_id-end.ensures, c.requires.from)),
    ) in
    omega (
      arith,
      c.loop-doc_id.invariant,
      c.requires.below,
      old-sum xs c.offsets_never_fall.ensures,
      ap (λ n. get_or xs n 0) last,
    )
