mod PieceLemmas
pub mod DraftLemmas
mod TakeLemmas
mod FileLemmas
pub mod RefusalLemmas
