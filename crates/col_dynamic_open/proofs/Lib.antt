pub use Rattle.col_dynamic.proofs.RowLemmas
mod LenientLemmas
mod DecodesLemmas
