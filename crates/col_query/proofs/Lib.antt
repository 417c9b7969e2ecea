mod AnswerLemmas
pub mod FindLemmas
mod LeafLemmas
mod LawLemmas
mod MergeLemmas
mod NameLemmas
mod NamedLemmas
mod PassLemmas
mod RunLemmas
pub mod SetLemmas
mod StackLemmas
mod WordLemmas
