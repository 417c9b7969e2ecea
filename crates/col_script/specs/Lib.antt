pub use Rattle.col_writer_columns.specs.Answers
pub use Rattle.col_questions.specs.Questions
pub use Rattle.col_lines.specs.Lines
pub use Rattle.col_lines.specs.RowOrders
pub mod Segments
pub mod Scripts
pub mod Files
