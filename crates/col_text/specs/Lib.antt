pub use Rattle.col_column.specs.declared.ip_values.IpValues as IpValuesType
pub use Rattle.col_column.specs.IpValues
pub use Rattle.col_column.specs.Columns
pub use Rattle.col_column.specs.Versions
pub use Rattle.col_column.specs.Indexes
pub use Rattle.col_column.specs.Offsets
pub use Rattle.col_column.specs.NumValuesType
pub use Rattle.col_column.specs.Coercions
pub use Rattle.col_column.specs.NumValues
pub use Rattle.col_column.specs.Opened
pub mod Texts
