pub use Rattle.col_model.specs.ColumnType
pub use Rattle.col_writer_rows.specs.Counted
pub use Rattle.col_writer_columns.specs.Answers
pub mod OnRows
pub mod EntryColumns
pub mod Tables
