use Rattle.std.proofs.Common.{drop, subst, arith}
use Rattle.std.proofs.lemmas.List.{drop_all, take_all}
use Rattle.col_merge_texts.specs.Ids.{AreIds, places_of}
use Rattle.col_merge_texts.specs.Taking.{IsPicked, IsNowhere}
use Rattle.col_merge_texts.proofs.IdLemmas.{ids-none}
use Rattle.col_merge_texts.proofs.NoteLemmas.{noted-less}
use Rattle.col_merge_texts.proofs.PickLemmas.{picked-none}
use Rattle.col_merge_texts.proofs.take_terms.take_picked.Goals as goal

pub loop-row-init : goal.loop-row-init
loop-row-init c = record {
  noted = c.requires.noted;
  ids = ids-none c.args.bytes_columns.now c.args.noted.now c.args.ids.now.items c.requires.none;
}

pub returns-clause-ok : goal.returns-clause-ok
returns-clause-ok c =
    let columns = c.args.bytes_columns.now in
    let rows = c.args.order.now.addresses in
    let none = drop_all c.loop-row.row rows (omega (arith, c.loop-row-test.false, c.num_rows-row-end.ensures)) in
    noted-less columns (IsPicked columns rows) (IsPicked columns (drop c.loop-row.row rows)) IsNowhere
    c.loop-row.noted c.loop-row.invariant.noted
    (λ q w left. picked-none columns q (subst (λ rs. IsPicked columns rs q) none left))

pub returns-clause-ids : goal.returns-clause-ids
returns-clause-ids c =
    let columns = c.args.bytes_columns.now in
    let rows = c.args.order.now.addresses in
    let all = take_all c.loop-row.row rows (omega (arith, c.loop-row-test.false, c.num_rows-row-end.ensures)) in
    subst (λ rs. AreIds c.loop-row.noted.ids (places_of columns rs) c.loop-row.ids.items) all c.loop-row.invariant.ids
