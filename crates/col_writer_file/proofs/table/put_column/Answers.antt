use Rattle.std.proofs.Common.{refl}
use Rattle.std.proofs.lemmas.Result.{err_from_is_err_and}
use Rattle.std.proofs.lemmas.Str.{is_utf8-from_IsUtf8}
use Rattle.col_keys.specs.KeyTables.{key_at}
use Rattle.col_types.specs.Kinds.{kind_of}
use Rattle.col_writer_file.specs.EntryColumns.{category_in, entry_in}
use Rattle.col_writer_file.proofs.OnRowLemmas.{stands}
use Rattle.col_writer_file.proofs.PutColumnLemmas.{put-stopped, put-done}
use Rattle.col_writer_file.proofs.table.put_column.Goals as goal

pub serialize-requires : goal.serialize-requires
serialize-requires g c = record { below = c.requires.below; kind = kind_of c.args.column_type; is_kind = c.requires.typed }

pub returns-in_err-serialize-clause-puts : goal.returns-in_err-serialize-clause-puts
returns-in_err-serialize-clause-puts g c =
    let typed = (stands (category_in c.args.column.now) (entry_in c.args.column.now) c.args.order.now
    (kind_of c.args.column_type) c.requires.typed).typed in
    let p = err_from_is_err_and c.from_residual.result c.from_residual.ensures.1 in
    rw (p.1, p.2) (put-stopped _ _ _ _ _ _ _ _ (kind_of c.args.column_type) _
    (c.in_err-serialize.ensures (kind_of c.args.column_type) typed) refl)

pub returns-clause-puts : goal.returns-clause-puts
returns-clause-puts g c =
    let typed = (stands (category_in c.args.column.now) (entry_in c.args.column.now) c.args.order.now
    (kind_of c.args.column_type) c.requires.typed).typed in
    put-done _ _ _ _ _ _ _ c.finalize.result (key_at c.args.name.now c.args.column_type) _ _ _ c.start_serialize_column-put.ensures.bytes
    (λ i. key_at (c.start_serialize_column-put.ensures.name i) (c.start_serialize_column-put.ensures.column_type i))
    (c.in_ok-serialize.ensures (kind_of c.args.column_type) typed) c.finalize.ensures

pub returns-in_err-serialize-clause-text : goal.returns-in_err-serialize-clause-text
returns-in_err-serialize-clause-text g c = is_utf8-from_IsUtf8 c.args.name.now c.utf8.name

pub returns-clause-text : goal.returns-clause-text
returns-clause-text g c = is_utf8-from_IsUtf8 c.args.name.now c.utf8.name
