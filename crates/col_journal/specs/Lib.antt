pub mod Journal
pub mod Settled
pub mod Found
