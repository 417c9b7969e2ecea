use Rattle.std.proofs.Common.{length, ap, subst, sym, ◌∙◌, map}
use Rattle.std.specs.List.{slice_get}
use Rattle.std.proofs.lemmas.List.{take_at}
use Rattle.col_common.specs.Ascending.{AreBelow}
use Rattle.col_index.proofs.SelectedLemmas.{ranks_below, selected_each, rows_at-selected}
use Rattle.col_index.proofs.optional_index.OptionalIndex.select_batch_in_place.Goals as goal

pub select_batch-requires : goal.select_batch-requires
select_batch-requires c =
    subst (λ xs. AreBelow (length c.args.self.now.rows) xs) (sym c.deref_mut.ensures.value)
    (ranks_below c.args.self.now c.rows_rise.ensures c.args.rank_ids.now.items c.requires.inside)

pub returns : goal.returns
returns c =
    let rows = c.args.self.now.rows in
    take_at c.select_batch.new.ranks _ c.args.rank_ids.now.len (c.select_batch.auto.ranks ∙ c.deref_mut.ensures.len)
    ∙ selected_each rows c.args.rank_ids.now.items c.select_batch.new.ranks
    (c.select_batch.ensures ∙ ap (map (slice_get rows)) c.deref_mut.ensures.value)
    ∙ rows_at-selected c.args.self.now c.rows_rise.ensures c.args.rank_ids.now.items c.requires.rising c.requires.inside
