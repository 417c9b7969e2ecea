pub mod PartLemmas
mod WordLemmas
mod FindLemmas
mod PlainLemmas
