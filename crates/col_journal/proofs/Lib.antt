mod ChangeLemmas
pub mod SettledLemmas
mod AppendLemmas
mod ReadingLemmas
mod BehindLemmas
