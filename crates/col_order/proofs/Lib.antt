pub mod StackLemmas
pub mod NamedLemmas
pub mod MarkedLemmas
pub mod RefusalLemmas
pub mod PickLemmas
