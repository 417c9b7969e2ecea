use Rattle.std.proofs.Common.{length, sym, subst}
use Rattle.std.specs.List.{AllByRecursion}
use Rattle.col_merge_texts.specs.Noting.{IsIdBelow}
use Rattle.col_merge_texts.proofs.SetLemmas.{all-at}
use Rattle.col_merge_texts.proofs.noted_terms.all_ords.Goals as goal

pub ords_of-requires : goal.ords_of-requires
ords_of-requires c =
    let below = AllByRecursion (IsIdBelow (length c.args.mapping.now)) in
    subst below (sym c.deref.ensures.value) (all-at below c.args.ids.now c.loop-column_ids.column_ids-index
    c.column_ids-item.result c.loop-column_ids-test.true c.column_ids-item.is c.requires)
