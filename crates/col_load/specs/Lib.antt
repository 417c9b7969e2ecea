pub mod Loads
pub mod Rows
pub mod Loading
pub mod Files
