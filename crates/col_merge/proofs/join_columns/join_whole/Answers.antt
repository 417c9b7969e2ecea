use Rattle.std.proofs.Common.{◌≡◌, ◌∙◌, length, subst, sym}
use Rattle.std.proofs.lemmas.Result.{err_from_is_err_and}
use Rattle.col_order.specs.Orders.{counts_of, picks_of}
use Rattle.col_order.specs.RowOrders.{order_of}
use Rattle.col_merge_slot.specs.JoinedSlots.{AreOpened}
use Rattle.col_merge_slot.specs.Segments.{HaveRows}
use Rattle.col_merge.specs.Joined.{joined_by}
use Rattle.col_merge.proofs.OpenTurnLemmas.{opened-rows, are-opened, joins-columns, open-refused}
use Rattle.col_merge.proofs.PartLemmas.{parts-told, counts-told}
use Rattle.col_merge.proofs.join_columns.join_whole.Goals as goal

pub joined_bytes-requires : goal.joined_bytes-requires
joined_bytes-requires g c =
    let same : c.deref_mut.result.now ≡ c.in_ok-columns.columns.items = cc (c.deref_mut.ensures.value) in
    let counts = counts_of (order_of c.args.merge_row_order.now) in
    subst (λ cs. HaveRows counts cs) (sym same) (opened-rows c.args.slot.now c.args.columnar_readers.now
    c.in_ok-columns.columns.items counts c.requires.counts c.in_ok-columns.ensures.ok)

pub returns-clause-answer : goal.returns-clause-answer
returns-clause-answer g c required wanted =
    let rs = c.args.columnar_readers.now in
    let order = order_of c.args.merge_row_order.now in
    let slot = c.args.slot.now in
    let same : c.deref_mut.result.now ≡ c.in_ok-columns.columns.items = cc (c.deref_mut.ensures.value) in
    joins-columns rs c.open_columns.new.columnar_readers slot.name (length (picks_of order))
    (λ parts. joined_by order required parts slot) c.joined_bytes.result c.joined_bytes.ensures.causes
    (λ parts t. c.joined_bytes.ensures.joined slot parts required
    (counts-told rs parts (parts-told rs parts c.requires.read t) ∙ c.requires.counts) (subst
    (λ cs. AreOpened slot parts cs) (sym same)
    (are-opened slot rs parts c.in_ok-columns.columns.items t c.in_ok-columns.ensures.ok)) wanted)

pub returns-in_err-columns-clause-answer : goal.returns-in_err-columns-clause-answer
returns-in_err-columns-clause-answer g c required same =
    let p = err_from_is_err_and c.from_residual.result c.from_residual.ensures.1 in
    rw (p.1, p.2) (λ a b. open-refused (order_of c.args.merge_row_order.now) required c.args.slot.now
    c.args.columnar_readers.now c.open_columns.new.columnar_readers c.in_err-columns.field-0.0 a b
    c.in_err-columns.ensures.err)
