pub mod Chosen
pub mod Opened
