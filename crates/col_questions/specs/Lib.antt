pub mod Finds
pub mod Values
pub mod Steps
pub mod Parsed
pub mod Questions
