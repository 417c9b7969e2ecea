pub mod PutsLemmas
pub mod EscapeLemmas
