pub use Rattle.col_merge_values.proofs.MergedRowLemmas
mod CountLemmas
mod SingleLemmas
mod LimitLemmas
mod NumberLemmas
mod JoinLemmas
pub mod SlotLemmas
mod TextLemmas
mod TextSlotLemmas
