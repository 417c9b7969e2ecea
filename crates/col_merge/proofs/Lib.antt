pub use Rattle.col_merge_slot.proofs.SlotLemmas
mod StackLemmas
pub mod JoinedLemmas
mod EachLemmas
mod NameLemmas
pub mod PartLemmas
pub mod ReadingLemmas
mod SlotReadLemmas
mod TurnLemmas
pub mod MergedLemmas
mod EndLemmas
mod OpenLemmas
pub mod OpenTurnLemmas
mod LackLemmas
mod ShortLemmas
mod ShortTurnLemmas
mod ShortLoopLemmas
mod ShortJoinLemmas
mod WriteLemmas
