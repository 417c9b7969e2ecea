mod HeldLemmas
pub mod LeaveLemmas
mod OpenLemmas
mod SetLemmas
