pub mod Outcome
pub mod Running
