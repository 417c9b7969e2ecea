pub use Rattle.col_numbers.proofs.CoercionLemmas
pub use Rattle.col_indexer.proofs.IndexedLaws
pub use Rattle.col_indexer.proofs.CountLaws
pub use Rattle.col_indexer.proofs.RowsLaws
pub use Rattle.col_indexer.proofs.RankLaws
pub use Rattle.col_indexer.proofs.TightestLemmas
pub use Rattle.col_indexer.proofs.CountedLemmas
pub use Rattle.col_indexer.proofs.MergeLemmas
pub mod RowLemmas
pub mod LookupLemmas
pub mod FirstLemmas
pub mod CellLemmas
pub mod OpenCountLemmas
mod OpenRowsLemmas
pub mod OpenCellLemmas
pub mod OpenSeenLemmas
mod OpenValueLemmas
mod SerializeNumberLemmas
pub mod SerializeRowLemmas
mod SerializeAddressLemmas
mod SerializeTieLemmas
