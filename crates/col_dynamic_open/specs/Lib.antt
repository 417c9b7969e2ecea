pub use Rattle.col_dynamic.specs.declared.dynamic_column.DynamicColumn as DynamicColumnType
pub use Rattle.col_dynamic.specs.Dynamic
pub use Rattle.col_dynamic.specs.Columns
pub use Rattle.col_dynamic.specs.Versions
pub mod Contents
pub mod LenientValues
pub mod Lenient
