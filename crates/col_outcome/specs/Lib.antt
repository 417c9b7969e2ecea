pub mod Parts
pub mod InMemory
pub mod Inputs
pub mod Making
pub mod Ordered
pub mod Checking
pub mod Upgrading
