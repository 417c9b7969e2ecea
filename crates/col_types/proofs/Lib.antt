pub mod CellLemmas
pub mod StoredLemmas
