pub use Rattle.col_column.proofs.OpenCountLemmas
pub use Rattle.col_column.proofs.FirstLemmas
pub use Rattle.col_column.proofs.CellLemmas
pub use Rattle.col_column.proofs.OpenSeenLemmas
pub use Rattle.col_column.proofs.CoercionLemmas
mod TermRangeLemmas
mod TermLookupLemmas
pub mod OpenTextLemmas
