use Rattle.std.proofs.Common.{◌∙◌, sym, subst, T, map, length}
use Rattle.std.proofs.lemmas.Result.{err_from_is_err_and}
use Rattle.col_model.specs.Written.{has_zero}
use Rattle.std.specs.Prelude.{not}
use Rattle.col_types.specs.Kinds.{kind_of}
use Rattle.col_writer_file.specs.Tables.{named_entry}
use Rattle.col_writer_file.proofs.OutcomeLemmas.{all-named_entry}
use Rattle.col_writer_file.proofs.PutColumnLemmas.{file-refused, file-written}
use Rattle.col_writer_file.proofs.TableLemmas.{categories-of}
use Rattle.col_writer_file.proofs.table.serialize_file.Goals as goal

pub returns-in_err-serialize_columns : goal.returns-in_err-serialize_columns
returns-in_err-serialize_columns g c =
    let p = err_from_is_err_and c.from_residual.result c.from_residual.ensures.1 in
    rw (p.1, p.2) (file-refused _ _ _ _ c.in_err-serialize_columns.ensures.refused)

pub returns : goal.returns
returns g c =
    file-written _ _ _ c.finalize.result c.serialize_columns.new.file (length c.args.order.now) c.num_rows.result
    c.args.order.now (map named_entry c.args.columns.now) (map kind_of c.args.types.now) c.num_rows.ensures
    c.in_ok-serialize_columns.ensures.put
    (sym (all-named_entry (λ p. not (has_zero p.0.name)) c.args.columns.now) ∙ c.requires.named)
    (categories-of c.args.types.now c.args.columns.now c.requires.categories)
    (subst T (sym c.requires.sorted) tt)
    c.finalize.ensures.file c.finalize.ensures.columns
