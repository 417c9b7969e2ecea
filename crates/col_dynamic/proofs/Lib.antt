pub use Rattle.col_text.proofs.OpenTextLemmas
pub use Rattle.col_text.proofs.OpenSeenLemmas
pub use Rattle.col_text.proofs.CellLemmas
pub use Rattle.col_text.proofs.CoercionLemmas as NumbersCoercionLemmas
pub mod CoercionLemmas
pub mod RowLemmas
