use Rattle.std.proofs.Common.{◌+◌, arith}
use Rattle.std.proofs.lemmas.Result.{err_from_is_err_and}
use Rattle.col_merge_texts.specs.Taking.{IsPlace, IsFrom}
use Rattle.col_merge_texts.proofs.NoteLemmas.{noted-less}
use Rattle.col_merge_texts.proofs.TakeLemmas.{from-next}
use Rattle.col_merge_texts.proofs.ColumnLemmas.{term-within, term-held, term-refused, term-noted}
use Rattle.col_merge_texts.proofs.take_terms.take_column.Goals as goal

pub note-requires-clause-place : goal.note-requires-clause-place
note-requires-clause-place c =
    term-within c.args.bytes_columns.now c.args.segment c.loop-ord.ord c.args.column.now c.requires.column
    (omega (arith, c.loop-ord-test.true, c.num_terms-ord-end.ensures)) c.loop-ord.noted c.loop-ord.invariant

pub note-requires-clause-held : goal.note-requires-clause-held
note-requires-clause-held c =
    term-held c.args.bytes_columns.now c.args.segment c.loop-ord.ord c.args.column.now c.requires.column
    (omega (arith, c.loop-ord-test.true, c.num_terms-ord-end.ensures)) c.loop-ord.noted c.loop-ord.invariant

pub returns-in_err-note-clause-err : goal.returns-in_err-note-clause-err
returns-in_err-note-clause-err c =
    let p = err_from_is_err_and c.from_residual.result c.from_residual.ensures.1 in
    rw (p.1, p.2) (term-refused c.args.bytes_columns.now c.args.segment c.loop-ord.ord c.args.column.now
    c.requires.column (omega (arith, c.loop-ord-test.true, c.num_terms-ord-end.ensures)) c.loop-ord.noted
    c.loop-ord.invariant c.in_err-note.field-0.0 c.in_err-note.ensures.err)

pub loop-ord-preserved : goal.loop-ord-preserved
loop-ord-preserved c =
    term-noted c.args.bytes_columns.now c.args.segment c.loop-ord.ord c.args.column.now c.requires.column
    (omega (arith, c.loop-ord-test.true, c.num_terms-ord-end.ensures)) c.loop-ord.noted c.loop-ord.invariant
    c.note.new.self c.in_ok-note.ensures.ok

pub returns-clause-ok : goal.returns-clause-ok
returns-clause-ok c =
    let columns = c.args.bytes_columns.now in
    let s = c.args.segment in
    noted-less columns (IsPlace columns) (IsFrom s c.loop-ord.ord) (IsFrom (s + 1) 0) c.loop-ord.noted c.loop-ord.invariant
    (λ q w left. from-next columns s c.loop-ord.ord c.args.column.now c.requires.column
    (omega (arith, c.loop-ord-test.false, c.num_terms-ord-end.ensures)) q w left)
