pub mod Slots
pub mod Placed
pub mod RequiredTypes
