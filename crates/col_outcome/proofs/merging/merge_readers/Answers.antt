use Rattle.std.proofs.Common.{map, option_map}
use Rattle.std.proofs.lemmas.Result.{err_from_is_err_and}
use Rattle.col_merge_plan.specs.Slots.{required_of}
use Rattle.col_questions.specs.Questions.{question_of}
use Rattle.col_lines.specs.RowOrders.{row_order_of}
use Rattle.col_outcome.specs.Making.{IsMade}
use Rattle.col_outcome.specs.Ordered.{merge_reads}
use Rattle.col_outcome.proofs.MergedFileLemmas.{readers-memory}
use Rattle.col_outcome.proofs.MergedLemmas.{order-refused, both-read, file-refused, all-made}
use Rattle.col_outcome.proofs.merging.merge_readers.Goals as goal

pub returns-in_err-row_order : goal.returns-in_err-row_order
returns-in_err-row_order g c =
    let p = err_from_is_err_and c.from_residual.result c.from_residual.ensures.1 in
    rw (p.1, p.2) (order-refused (required_of c.args.required.now) (option_map row_order_of c.args.order) c.args.readers.now _
    (IsMade c.args.short (map question_of c.args.questions.now)) _ c.in_err-row_order.ensures)

pub returns-in_err-file : goal.returns-in_err-file
returns-in_err-file g c =
    let p = err_from_is_err_and c.from_residual-in_err-file.result c.from_residual-in_err-file.ensures.1 in
    rw (p.1, p.2) (file-refused (required_of c.args.required.now) (option_map row_order_of c.args.order) c.args.readers.now _ _
    c.in_ok-row_order.row_order c.in_ok-row_order.ensures (IsMade c.args.short (map question_of c.args.questions.now)) _
    c.in_err-file.ensures)

pub returns-in_err-report : goal.returns-in_err-report
returns-in_err-report g c =
    let p = err_from_is_err_and c.from_residual-in_err-report.result c.from_residual-in_err-report.ensures.1 in
    rw p.1 (readers-memory (IsMade c.args.short (map question_of c.args.questions.now))
    (merge_reads (option_map row_order_of c.args.order)) _ _ p.0 _ p.2
    (both-read (required_of c.args.required.now) (option_map row_order_of c.args.order) c.args.readers.now _ _
    c.in_ok-row_order.row_order c.in_ok-row_order.ensures c.in_ok-file.ensures.stay))

pub returns : goal.returns
returns g c =
    all-made (required_of c.args.required.now) (option_map row_order_of c.args.order) c.args.readers.now _ _
    c.in_ok-row_order.row_order c.in_ok-row_order.ensures c.args.short (map question_of c.args.questions.now) _
    c.in_ok-file.ensures c.in_ok-report.ensures
