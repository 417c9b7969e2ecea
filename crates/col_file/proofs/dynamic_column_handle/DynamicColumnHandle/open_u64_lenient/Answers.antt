use Rattle.std.proofs.Common.{ap, ◌∙◌}
use Rattle.col_dynamic_open.specs.Versions.{version_number}
use Rattle.col_types.specs.Kinds.{kind_of}
use Rattle.col_dynamic_open.specs.Lenient.{IsInPlaceOf}
use Rattle.col_file.proofs.OpenedLemmas.{answers-opened, codes-opened}
use Rattle.col_file.proofs.dynamic_column_handle.DynamicColumnHandle.open_u64_lenient.Goals as goal

pub returns-clause-answer : goal.returns-clause-answer
returns-clause-answer g c =
    let keys = c.in_ok-bytes.ensures.kept.keys in
    let rows = c.num_docs.ensures ∙ ap (λ k. k.row_count) keys in
    let version = c.format_version.ensures ∙ ap (λ k. k.version) keys in
    answers-opened IsInPlaceOf c.args.reader.now.file c.read_column.new.self.file c.args.reader.now.keys
    c.args.self.now c.in_ok-bytes.bytes (kind_of c.column_type.result) (version_number c.format_version.result)
    c.num_docs.result c.open_column_u64_lenient.result c.column_type.ensures version rows
    c.in_ok-bytes.ensures.answer c.open_column_u64_lenient.ensures.column

pub returns-clause-codes : goal.returns-clause-codes
returns-clause-codes g c =
    codes-opened c.args.reader.now.file c.read_column.new.self.file c.args.reader.now.keys c.args.self.now
    c.in_ok-bytes.bytes (kind_of c.column_type.result) c.open_column_u64_lenient.result c.column_type.ensures
    c.in_ok-bytes.ensures.answer c.open_column_u64_lenient.ensures.codes
