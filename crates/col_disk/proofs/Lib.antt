pub mod Moments
mod TornLemmas
pub mod PutLemmas
mod ImageLemmas
mod HistoryLemmas
mod UntoldLemmas
