mod AbsentLemmas
pub mod AddLemmas
pub mod ConflictLemmas
mod DropLemmas
mod FileLemmas
mod FindLemmas
mod FindsLemmas
mod FoundLemmas
mod IdLemmas
mod KeptLemmas
pub mod LiveLemmas
pub mod MergeLemmas
mod OpenLemmas
mod PickedLemmas
mod PlaceLemmas
mod ReaderLemmas
mod RowLemmas
