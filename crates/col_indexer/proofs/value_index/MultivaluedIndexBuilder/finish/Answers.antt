use Rattle.std.proofs.Common.{◌≡◌, ◌==◌, refl, ap, sym, ◌∙◌}
use Rattle.std.proofs.lemmas.Bool.{eqb-true}
use Rattle.std.proofs.lemmas.List.{nil_from_length}
use Rattle.col_indexer.proofs.BuilderLemmas.{begun, begun-some}
use Rattle.col_indexer.proofs.FinishLemmas.{recorded-index, recorded-offsets}
use Rattle.col_indexer.proofs.value_index.MultivaluedIndexBuilder.finish.Goals as goal
use Rattle.col_indexer.proofs.value_index.MultivaluedIndexBuilder.finish.Goals.{then-is_empty, else-is_empty}

starts_begun : (c : goal.After-from_lists) → c.if-is_empty.starts.now ≡ begun c.self.inside.start_offsets.items
starts_begun c =
    let offsets = c.self.inside.start_offsets.items in
    let long = ap (λ n. n == 0) c.self.inside.start_offsets.ok.0 in
    elim c.if-is_empty.branch [
      | then-is_empty w ↦ ap (λ s. s.now) w.starts-is ∙ w.as_slice-starts.ensures
          ∙ sym (ap begun (nil_from_length offsets (eqb-true _ 0 (sym (w.if-is_empty.ensures ∙ long)))))
      | else-is_empty w ↦ begun-some offsets offsets _ refl (w.if-is_empty.ensures ∙ long)
          (ap (λ s. s.now) w.starts-is ∙ w.as_slice-starts-else-is_empty.ensures.value)
    ]

pub returns-clause-rows : goal.returns-clause-rows
returns-clause-rows c =
    c.from_lists.ensures ∙ recorded-index c.args.num_docs _ _ _ _ _ c.self.invariant c.self.view_is c.requires.values c.deref.ensures.value
    (starts_begun c)

pub returns-clause-index : goal.returns-clause-index
returns-clause-index c =
    recorded-offsets c.args.num_docs _ _ _ c.self.invariant c.self.view_is c.ranges.num_docs.fits c.requires.below
    c.requires.values
