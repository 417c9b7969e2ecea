pub mod PartLemmas
mod DecidedLemmas
pub mod InputLemmas
mod MadeFileLemmas
mod MakeLemmas
pub mod MergedFileLemmas
mod MergedLemmas
mod OpeningLemmas
pub mod OrderLemmas
mod StayLemmas
mod TakenLemmas
mod TableLemmas
mod CheckingLemmas
mod UpgradingLemmas
