pub mod AmongLemmas
mod SetLemmas
mod NoteLemmas
mod TakeLemmas
mod PickLemmas
mod KnownLemmas
mod TermLemmas
mod ColumnLemmas
mod RowLemmas
mod OrdinalLemmas
mod IdLemmas
mod IdOrdinalLemmas
mod ContentLemmas
mod WritingLemmas
pub mod CallerLemmas
