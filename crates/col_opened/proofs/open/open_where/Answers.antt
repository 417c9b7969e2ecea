use Rattle.std.proofs.Common.{length, count_by}
use Rattle.std.proofs.lemmas.Result.{err_from_is_err_and}
use Rattle.col_file.proofs.ReadLemmas.{reads-none, reads-most}
use Rattle.col_opened.specs.declared.open_columns.OpenColumns.{OpenColumns}
use Rattle.col_opened.proofs.TableLemmas.{are-listed, few-listed, table-refused, table-opened}
use Rattle.col_opened.proofs.open.open_where.Goals as goal

pub open_listed-requires : goal.open_listed-requires
open_listed-requires g c = are-listed c.args.reader.now.keys c.args.wanted.now c.in_ok-listed.listed.items c.in_ok-listed.ensures

pub returns-in_err-places-clause-reads : goal.returns-in_err-places-clause-reads
returns-in_err-places-clause-reads g c = reads-none (count_by (λ w. w) c.args.wanted.now) c.args.reader.now

pub returns-in_err-listed-clause-reads : goal.returns-in_err-listed-clause-reads
returns-in_err-listed-clause-reads g c = reads-none (count_by (λ w. w) c.args.wanted.now) c.args.reader.now

pub returns-in_err-columns-clause-answer : goal.returns-in_err-columns-clause-answer
returns-in_err-columns-clause-answer g c =
    let r = c.args.reader.now in
    let p = err_from_is_err_and c.from_residual-in_err-columns.result c.from_residual-in_err-columns.ensures.1 in
    rw (p.1, p.2) (table-refused r.keys c.args.wanted.now c.in_ok-listed.listed.items c.in_ok-listed.ensures r.file
    c.open_listed.new.reader.file c.file_is_whole.ensures.told c.in_err-columns.field-0.0 c.in_err-columns.ensures.answer)

pub returns-in_err-columns-clause-reads : goal.returns-in_err-columns-clause-reads
returns-in_err-columns-clause-reads g c =
    reads-most (length c.in_ok-listed.listed.items) (count_by (λ w. w) c.args.wanted.now) c.args.reader.now
    c.open_listed.new.reader
    (few-listed c.args.reader.now.keys c.args.wanted.now c.in_ok-listed.listed.items c.in_ok-listed.ensures)
    c.in_err-columns.ensures.reads

pub returns-clause-answer : goal.returns-clause-answer
returns-clause-answer g c =
    let r = c.args.reader.now in
    let made : OpenColumns = record { places = c.in_ok-places.places; columns = c.in_ok-columns.columns } in
    table-opened r.keys c.args.wanted.now c.in_ok-listed.listed.items c.in_ok-listed.ensures made c.requires
    c.in_ok-places.ensures c.in_ok-columns.ensures.rows r.file.told c.file_is_whole.ensures.told
    c.in_ok-columns.ensures.answer

pub returns-clause-reads : goal.returns-clause-reads
returns-clause-reads g c =
    reads-most (length c.in_ok-listed.listed.items) (count_by (λ w. w) c.args.wanted.now) c.args.reader.now
    c.open_listed.new.reader
    (few-listed c.args.reader.now.keys c.args.wanted.now c.in_ok-listed.listed.items c.in_ok-listed.ensures)
    c.in_ok-columns.ensures.reads
