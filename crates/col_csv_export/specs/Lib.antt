pub mod Putting
pub mod Exports
