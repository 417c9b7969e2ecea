pub mod AlikeLemmas
pub mod GapLemmas
pub mod ShortLemmas
