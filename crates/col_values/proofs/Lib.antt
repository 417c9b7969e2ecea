pub mod HitLemmas
pub mod OrderLemmas
pub mod MonotonicLemmas
pub mod CodeLemmas
pub mod PartLemmas
