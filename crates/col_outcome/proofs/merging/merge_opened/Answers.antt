use Rattle.std.proofs.Common.{map, option_map, reverse, drop, length, ◌∙◌, arith}
use Rattle.std.proofs.lemmas.List.{take_at}
use Rattle.std.proofs.lemmas.Result.{err_from_is_err_and}
use Rattle.col_questions.specs.Questions.{question_of}
use Rattle.col_lines.specs.RowOrders.{row_order_of}
use Rattle.col_merge_plan.specs.Slots.{required_of}
use Rattle.col_outcome.specs.Making.{IsMade}
use Rattle.col_outcome.specs.Ordered.{merge_reads}
use Rattle.col_outcome.specs.Parts.{handed_in, all_files, AllKeep}
use Rattle.col_outcome.proofs.MakeLemmas.{inputs-unopened, inputs-merged, opened-long}
use Rattle.col_outcome.proofs.StayLemmas.{merged-keep}
use Rattle.col_outcome.proofs.merging.merge_opened.Goals as goal

pub returns-in_err-open_inputs-clause-merges : goal.returns-in_err-open_inputs-clause-merges
returns-in_err-open_inputs-clause-merges g c = λ unfailed.
    let p = err_from_is_err_and c.from_residual.result c.from_residual.ensures.1 in
    rw (p.1, p.2) (inputs-unopened (IsMade c.args.short (map question_of c.args.questions.now)) _ _
    c.open_inputs.new.readers.items c.args.files.now (required_of c.args.required.now)
    (option_map row_order_of c.args.order) _ c.in_err-open_inputs.ensures.opens)

pub open_files-requires : goal.open_files-requires
open_files-requires g c =
    let see = g.H.FileHandle.seen in
    omega (
      arith,
      opened-long see c.args.left.now.items c.open_inputs.new.readers.items
          c.in_ok-open_inputs.ensures.opens.opened,
      c.open_inputs.new.readers.ok.0,
      c.args.left.now.ok.0,
      c.requires.room,
      c.in_ok-open_inputs.ensures.room,
    )

pub returns-clause-merges : goal.returns-clause-merges
returns-clause-merges g c = λ unfailed.
    let see = g.H.FileHandle.seen in
    let back = take_at c.merge_readers.new.readers
    (drop (length c.merge_readers.new.readers) c.open_files.new.readers.items) c.open_files.new.readers.len
    (c.merge_readers.auto.readers ∙ c.deref_mut.ensures.len) in
    rw back (inputs-merged see c.open_inputs.new.left.items (IsMade c.args.short (map question_of c.args.questions.now))
    (merge_reads (option_map row_order_of c.args.order))
    (handed_in see (reverse c.args.left.now.items)) c.open_inputs.new.readers.items c.open_files.new.readers.items
    c.merge_readers.new.readers c.args.files.now (required_of c.args.required.now)
    (option_map row_order_of c.args.order) c.merge_readers.result
    c.in_ok-open_inputs.ensures.opens.opened c.in_ok-open_files.ensures.opened
    (rw c.deref_mut.ensures.value at c.merge_readers.ensures) c.in_ok-open_inputs.ensures.opens.kept
    c.in_ok-open_files.ensures.given (rw back at unfailed))

pub returns-clause-kept : goal.returns-clause-kept
returns-clause-kept g c =
    let see = g.H.FileHandle.seen in
    let fs = handed_in see (reverse c.args.left.now.items) in
    let keep : AllKeep fs (all_files see c.open_files.new.readers.items c.open_inputs.new.left.items) =
    rw c.in_ok-open_files.ensures.given c.in_ok-open_inputs.ensures.opens.kept in
    let back = take_at c.merge_readers.new.readers
    (drop (length c.merge_readers.new.readers) c.open_files.new.readers.items) c.open_files.new.readers.len
    (c.merge_readers.auto.readers ∙ c.deref_mut.ensures.len) in
    rw back (merged-keep see c.open_inputs.new.left.items (merge_reads (option_map row_order_of c.args.order)) fs
    c.open_files.new.readers.items c.merge_readers.new.readers keep
    (rw c.deref_mut.ensures.value at c.merge_readers.ensures.stay))
