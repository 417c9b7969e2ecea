use Rattle.std.proofs.Common.{◌≡◌, true, subst, sym}
use Rattle.col_common.specs.Ascending.{is_rising}
use Rattle.col_indexer.specs.Builders.{IsAfter}
use Rattle.col_indexer.proofs.RecordedLists.{rising-push}
use Rattle.col_indexer.proofs.value_index.OptionalIndexBuilderIndexBuilder.record_row.Goals as goal

pub invariant_of-self-2 : goal.invariant_of-self-2
invariant_of-self-2 c =
    subst (λ xs. is_rising xs ≡ true) (sym c.in_ok-push.ensures.items) (rising-push c.self.inside.docs.items
    c.args.doc c.self.invariant (subst (λ rows. IsAfter rows c.args.doc) (sym c.self.view_is) c.requires))
