pub mod Items
pub mod Noting
pub mod Merged
pub mod Taking
pub mod Ids
pub mod Writing
