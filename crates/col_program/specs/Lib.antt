pub mod Values
pub mod Queries
pub mod Script
pub mod Report
pub mod Check
pub mod GenScript
pub mod Outcome
