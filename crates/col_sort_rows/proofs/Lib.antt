mod ApartLemmas
mod OrderLemmas
pub mod RowLemmas
pub mod AddedLemmas
mod OrderedLemmas
mod BitLemmas
mod WordLemmas
mod WordOrderLemmas
mod KeptLemmas
mod DealLemmas
