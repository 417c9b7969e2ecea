use Rattle.std.proofs.Common.{ap, ◌∙◌}
use Rattle.col_dynamic_open.specs.Versions.{version_number}
use Rattle.col_types.specs.Kinds.{kind_of}
use Rattle.col_file.specs.Columns.{HasContent}
use Rattle.col_file.proofs.OpenedLemmas.{answers-opened, has-content, opened-typed}
use Rattle.col_file.proofs.dynamic_column_handle.DynamicColumnHandle.open.Goals as goal

pub returns-clause-answer : goal.returns-clause-answer
returns-clause-answer g c =
    let keys = c.in_ok-bytes.ensures.kept.keys in
    let kind = kind_of c.column_type.result in
    answers-opened HasContent c.args.reader.now.file c.read_column.new.self.file c.args.reader.now.keys
    c.args.self.now c.in_ok-bytes.bytes kind (version_number c.format_version.result) c.num_docs.result
    c.open_column.result c.column_type.ensures (c.format_version.ensures ∙ ap (λ k. k.version) keys)
    (c.num_docs.ensures ∙ ap (λ k. k.row_count) keys) c.in_ok-bytes.ensures.answer
    (has-content kind c.open_column.result _ c.open_column.ensures.column c.open_column.ensures.kind)

pub returns-clause-typed : goal.returns-clause-typed
returns-clause-typed g c =
    let rows = c.num_docs.ensures ∙ ap (λ k. k.row_count) c.in_ok-bytes.ensures.kept.keys in
    opened-typed c.in_ok-bytes.bytes (kind_of c.column_type.result) (version_number c.format_version.result)
    c.num_docs.result c.args.self.now.column_type c.args.reader.now.keys.row_count c.open_column.result
    c.column_type.ensures rows c.open_column.ensures.column c.open_column.ensures.kind
