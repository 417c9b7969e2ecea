pub use Rattle.col_merge_column.proofs.SlotLemmas
pub mod SegmentLemmas
mod CauseLemmas
mod TakenLemmas
mod SlotTypeLemmas
mod BoundLemmas
mod ReadLemmas
mod KeptLemmas
mod OwnLemmas
mod PartLemmas
mod SharedLemmas
mod FitLemmas
mod JoinedLemmas
mod TextLemmas
mod TextPartLemmas
