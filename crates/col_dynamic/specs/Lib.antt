pub use Rattle.col_text.specs.Texts
pub use Rattle.col_text.specs.Columns
pub use Rattle.col_text.specs.Opened
pub use Rattle.col_text.specs.Versions
pub use Rattle.col_text.specs.Offsets
pub use Rattle.col_text.specs.NumValuesType
pub use Rattle.col_text.specs.NumValues
pub mod Dynamic
