use Rattle.std.proofs.Common.{ap, subst, ◌∙◌}
use Rattle.col_index.specs.Versions.{version_number}
use Rattle.col_types.specs.Kinds.{kind_of}
use Rattle.col_file.proofs.OpenedLemmas.{answers-opened}
use Rattle.col_dynamic_open.specs.Contents.{DecodesTo}
use Rattle.col_model.specs.Column.{column}
use Rattle.col_upgrade.specs.Again.{StandsForContent}
use Rattle.col_upgrade.proofs.entry.entry_again.Goals as goal

pub returns-clause-answer : goal.returns-clause-answer
returns-clause-answer g c =
    let keys = c.in_ok-bytes.ensures.kept.keys in
    let rows = c.num_docs.ensures ∙ ap (λ k. k.row_count) keys in
    let version = c.format_version.ensures ∙ ap (λ k. k.version) keys in
    let n = c.args.reader.now.keys.row_count in
    let t = kind_of c.column_type.result in
    answers-opened (λ t. StandsForContent t n) c.args.reader.now.file c.read_column.new.reader.file
    c.args.reader.now.keys c.args.handle.now c.in_ok-bytes.bytes t (version_number c.format_version.result)
    c.num_docs.result c.column_again.result c.column_type.ensures version rows c.in_ok-bytes.ensures.answer
    (subst (λ m. DecodesTo (StandsForContent t m) c.column_again.result
    (column c.in_ok-bytes.bytes t (version_number c.format_version.result) c.num_docs.result)) rows c.column_again.ensures)
