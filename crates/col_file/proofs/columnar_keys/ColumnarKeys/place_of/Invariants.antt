use Rattle.std.proofs.Common.{◌≡◌, find, slice_range}
use Rattle.col_model.specs.ColumnType.{same_type}
use Rattle.col_types.specs.Kinds.{kind_of}
use Rattle.col_file.specs.Handles.{entry_typed}
use Rattle.col_file.proofs.columnar_keys.ColumnarKeys.place_of.Given as goal

abbrev pub invariant-loop-at : goal.invariant-loop-at
invariant-loop-at l =
    find (λ e. same_type e.key.column_type (kind_of l.column_type)) (slice_range l.self.entries l.at l.at-end)
    ≡ entry_typed l.name (kind_of l.column_type) l.self.entries
