mod ColumnRowLemmas
mod StackedValueLemmas
mod RunLemmas
mod PickedLemmas
mod AppendLemmas
pub mod RemappedLemmas
pub mod ColumnListLemmas
pub mod MergedRowLemmas
pub mod MergedCellLemmas
