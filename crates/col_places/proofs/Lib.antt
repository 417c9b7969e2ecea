mod AllLemmas
mod BitLemmas
mod ClearLemmas
mod DropLemmas
pub mod KindLemmas
mod ListedLemmas
mod RangeLemmas
pub mod WalkLemmas
