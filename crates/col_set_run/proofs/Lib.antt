pub mod ReachedLemmas
pub mod StayLemmas
mod StepLemmas
mod AddingLemmas
mod LineLemmas
mod KnownLemmas
mod TakeLemmas
