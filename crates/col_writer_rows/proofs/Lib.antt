pub mod DocumentLemmas
pub mod CutLemmas
pub mod RowLemmas
pub mod ShapeLemmas
mod StartLemmas
mod NoteLemmas
mod DocCountLemmas
mod DocRowLemmas
mod RepeatedLemmas
mod StepLemmas
mod IndexLemmas
mod PlaceLemmas
mod OrderLemmas
mod SortLemmas
pub mod ColumnLemmas
pub mod DictionaryLemmas
pub mod TextLemmas
mod TieLemmas
pub mod EntryLemmas
pub mod LimitLemmas
mod DocPlaceLemmas
