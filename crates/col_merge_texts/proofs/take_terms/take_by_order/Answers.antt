use Rattle.std.proofs.Common.{sym, subst}
use Rattle.std.specs.Prelude.{OnOk}
use Rattle.col_order.specs.RowOrders.{order_of}
use Rattle.col_common.proofs.OnOkLemmas.{on_ok-always}
use Rattle.col_merge_texts.specs.Ids.{HasIds}
use Rattle.col_merge_texts.specs.Taking.{IsPlace, IsTaken, IsFrom, IsNowhere, AreNoted}
use Rattle.col_merge_texts.proofs.NoteLemmas.{noted-less}
use Rattle.col_merge_texts.proofs.TakeLemmas.{from-all}
use Rattle.col_merge_texts.proofs.take_terms.take_by_order.Goals as goal

pub take_all-requires : goal.take_all-requires
take_all-requires c =
    let columns = c.args.bytes_columns.now in
    noted-less columns (IsPlace columns) (IsPlace columns) (IsFrom 0 0) c.args.noted.now
    (subst (λ o. AreNoted columns (IsTaken columns (order_of o)) (IsTaken columns (order_of o)) c.args.noted.now)
    c.in-Stack.is c.requires.noted)
    (λ q w left. from-all q)

pub returns-in-Stack-clause-ok : goal.returns-in-Stack-clause-ok
returns-in-Stack-clause-ok c =
    let columns = c.args.bytes_columns.now in
    subst (λ o. OnOk c.take_all.result
    (AreNoted columns (IsTaken columns (order_of o)) IsNowhere c.take_all.new.noted)) (sym c.in-Stack.is)
    c.take_all.ensures.ok

pub take_picked-requires-clause-noted : goal.take_picked-requires-clause-noted
take_picked-requires-clause-noted c =
    let columns = c.args.bytes_columns.now in
    subst (λ o. AreNoted columns (IsTaken columns (order_of o)) (IsTaken columns (order_of o)) c.args.noted.now)
    c.in-Shuffled.is c.requires.noted

pub returns-in-Shuffled-clause-ok : goal.returns-in-Shuffled-clause-ok
returns-in-Shuffled-clause-ok c =
    let columns = c.args.bytes_columns.now in
    subst (λ o. OnOk c.take_picked.result
    (AreNoted columns (IsTaken columns (order_of o)) IsNowhere c.take_picked.new.noted)) (sym c.in-Shuffled.is)
    c.take_picked.ensures.ok

pub returns-in-Stack-clause-ids : goal.returns-in-Stack-clause-ids
returns-in-Stack-clause-ids c =
    let columns = c.args.bytes_columns.now in
    subst (λ o. OnOk c.take_all.result (HasIds columns (order_of o) c.take_all.new.noted c.args.ids.now.items))
    (sym c.in-Stack.is) (on_ok-always c.take_all.result c.requires.none)

pub returns-in-Shuffled-clause-ids : goal.returns-in-Shuffled-clause-ids
returns-in-Shuffled-clause-ids c =
    let columns = c.args.bytes_columns.now in
    subst (λ o. OnOk c.take_picked.result
    (HasIds columns (order_of o) c.take_picked.new.noted c.take_picked.new.ids.items)) (sym c.in-Shuffled.is)
    c.take_picked.ensures.ids
