mod RefusalLemmas
mod IndexLemmas
mod NumberLemmas
pub mod PutLemmas
mod FileLemmas
