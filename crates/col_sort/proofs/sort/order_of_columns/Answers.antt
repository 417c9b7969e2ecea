use Rattle.std.proofs.Common.{◌∙◌, ap, map}
use Rattle.std.proofs.lemmas.Result.{IfOk-weaker, IfErr-weaker}
use Rattle.col_order.specs.Orders.{address_of}
use Rattle.col_sort.proofs.MovedLemmas.{none-refused}
use Rattle.col_sort.proofs.SortLemmas.{only-memory}
use Rattle.col_sort.proofs.sort.order_of_columns.Goals as goal

pub returns-clause-ok : goal.returns-clause-ok
returns-clause-ok c =
    IfOk-weaker c.new.result _ _ (λ order h. (
      ap (λ o. o.counts) h,
      λ all. ap (λ o. o.addresses) h
          ∙ c.in_ok-rows.ensures.ok.sorted all,
    )) c.new.ensures.ok

pub returns-clause-err : goal.returns-clause-err
returns-clause-err c =
    IfErr-weaker c.new.result _ _ (λ e h. only-memory e _
    (none-refused c.args.counts.now (map address_of c.in_ok-rows.rows.items) c.requires.few c.in_ok-rows.ensures.ok.moved) h)
    c.new.ensures.err
