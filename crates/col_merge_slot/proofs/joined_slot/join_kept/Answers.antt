use Rattle.std.proofs.Common.{option_map, IfSome, Ok, refl, subst}
use Rattle.std.proofs.lemmas.Result.{err_from_is_err_and}
use Rattle.col_order.specs.Orders.{picks_of}
use Rattle.col_order.specs.RowOrders.{order_of}
use Rattle.col_types.specs.Kinds.{kind_of}
use Rattle.col_merge_slot.specs.JoinedSlots.{IsKeptType}
use Rattle.col_merge_slot.specs.Segments.{where_set, kept_of, is_read_as}
use Rattle.col_merge_slot.specs.Taken.{FitAs, fits_slot}
use Rattle.col_merge_slot.proofs.CauseLemmas.{slot-cause}
use Rattle.col_merge_slot.proofs.FitLemmas.{leaves-like}
use Rattle.col_merge_slot.proofs.JoinedLemmas.{own-kept, are-flags, slot-none, slot-conflict, slot-refused, slot-made}
use Rattle.col_merge_slot.proofs.joined_slot.join_kept.Goals as goal

pub joined_type-requires : goal.joined_type-requires
joined_type-requires g c =
    are-flags c.args.columns.now c.args.kept.now (picks_of (order_of c.args.merge_row_order.now)) c.requires.flags

pub write_slot-requires-clause-flags : goal.write_slot-requires-clause-flags
write_slot-requires-clause-flags g c =
    (are-flags c.args.columns.now c.args.kept.now (picks_of (order_of c.args.merge_row_order.now)) c.requires.flags).long

-- ---- what is joined

pub returns-in_err-column_type-clause-joined : goal.returns-in_err-column_type-clause-joined
returns-in_err-column_type-clause-joined g c = λ slot parts required same opened wanted_is.
    let p = err_from_is_err_and c.from_residual.result c.from_residual.ensures.1 in
    rw (p.1, p.2) (slot-conflict (order_of c.args.merge_row_order.now) c.args.columns.now c.args.kept.now
    (option_map kind_of c.args.wanted) c.requires.rows c.columns_are_counted.ensures c.cells_are_told.ensures
    c.orders_are_picks.ensures c.requires.flags slot parts required same opened wanted_is
    c.in_err-column_type.field-0.0 c.in_err-column_type.ensures.joined)

pub returns-in_default-clause-joined : goal.returns-in_default-clause-joined
returns-in_default-clause-joined g c = λ slot parts required same opened wanted_is.
    let kept = kept_of c.args.columns.now c.args.kept.now in
    let wanted = option_map kind_of c.args.wanted in
    let typed = subst (λ found. IsKeptType wanted kept (Ok found)) c.in_default.is c.in_ok-column_type.ensures.joined in (
      refl,
      slot-none (order_of c.args.merge_row_order.now) c.args.columns.now c.args.kept.now wanted c.requires.rows
          c.columns_are_counted.ensures c.cells_are_told.ensures c.orders_are_picks.ensures c.requires.flags
          slot parts required same opened wanted_is typed,
    )

pub returns-in_err-write_slot-clause-joined : goal.returns-in_err-write_slot-clause-joined
returns-in_err-write_slot-clause-joined g c = λ slot parts required same opened wanted_is.
    let p = err_from_is_err_and c.from_residual-in_err-write_slot.result c.from_residual-in_err-write_slot.ensures.1 in
    rw (p.1, p.2) (slot-refused (order_of c.args.merge_row_order.now) c.args.columns.now c.args.kept.now
    (option_map kind_of c.args.wanted) c.requires.rows c.columns_are_counted.ensures c.cells_are_told.ensures
    c.orders_are_picks.ensures c.requires.flags slot parts required same opened wanted_is
    _ c.in-Some.column_type c.in-Some.is c.in_ok-column_type.ensures.joined (g.K.Sink.seen c.args.sink.now)
    (g.K.Sink.seen c.write_slot.new.sink) c.in_err-write_slot.field-0.0 c.in_err-write_slot.ensures.written)

pub returns-clause-joined : goal.returns-clause-joined
returns-clause-joined g c = λ slot parts required same opened wanted_is.
    slot-made (order_of c.args.merge_row_order.now) c.args.columns.now c.args.kept.now
    (option_map kind_of c.args.wanted) c.requires.rows c.columns_are_counted.ensures c.cells_are_told.ensures
    c.orders_are_picks.ensures c.requires.flags slot parts required same opened wanted_is
    _ c.in-Some.column_type c.in-Some.is c.in_ok-column_type.ensures.joined (g.K.Sink.seen c.args.sink.now)
    (g.K.Sink.seen c.write_slot.new.sink) c.in_ok-write_slot.field-0 c.in_ok-write_slot.ensures.written

-- ---- what is taken

pub returns-in_err-column_type-clause-taken : goal.returns-in_err-column_type-clause-taken
returns-in_err-column_type-clause-taken g c =
    let p = err_from_is_err_and c.from_residual.result c.from_residual.ensures.1 in
    rw (p.1, p.2, c.in_err-column_type.ensures.err) refl

pub returns-in_err-write_slot-clause-taken : goal.returns-in_err-write_slot-clause-taken
returns-in_err-write_slot-clause-taken g c =
    let columns = c.args.columns.now in
    let flags = c.args.kept.now in
    let p = err_from_is_err_and c.from_residual-in_err-write_slot.result c.from_residual-in_err-write_slot.ensures.1 in
    let fit = c.in_ok-column_type.ensures.fits (own-kept columns flags c.cells_are_told.ensures) in
    rw (p.1, p.2) (leaves-like (is_read_as (kind_of c.in-Some.column_type))
    (fits_slot (option_map kind_of c.args.wanted) (kept_of columns flags)) columns flags c.write_slot.new.columns
    c.in_err-write_slot.field-0.0
    (subst (λ found. IfSome found (λ t. FitAs (kind_of t) (option_map kind_of c.args.wanted) (kept_of columns flags)))
    c.in-Some.is fit) c.in_err-write_slot.ensures.taken)

-- ---- why it isn't joined

pub returns-in_err-write_slot-clause-causes : goal.returns-in_err-write_slot-clause-causes
returns-in_err-write_slot-clause-causes g c =
    let p = err_from_is_err_and c.from_residual-in_err-write_slot.result c.from_residual-in_err-write_slot.ensures.1 in
    rw (p.1, p.2) (slot-cause (order_of c.args.merge_row_order.now) (where_set c.args.columns.now c.args.kept.now)
    (kind_of c.in-Some.column_type) (g.K.Sink.seen c.args.sink.now) (g.K.Sink.seen c.write_slot.new.sink)
    c.in_err-write_slot.field-0.0 c.in_err-write_slot.ensures.written)
