use Rattle.col_index.specs.Versions.{version_number}
use Rattle.col_model.specs.Column.{column}
use Rattle.col_types.specs.Kinds.{kind_of}
use Rattle.col_upgrade.proofs.NumberLemmas.{again-decodes}
use Rattle.col_upgrade.proofs.whole_column.column_again.Goals as goal

pub returns : goal.returns
returns c =
    again-decodes c.rewritten.result
    (column c.args.bytes (kind_of c.args.column_type) (version_number c.args.format_version) c.args.num_rows)
    (kind_of c.args.column_type) c.args.num_rows c.in_ok-test_column.ensures.ok c.rewritten.ensures.ok c.rewritten.ensures.err
