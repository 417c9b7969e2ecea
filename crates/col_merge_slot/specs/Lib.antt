pub mod Segments
pub mod SlotTypes
pub mod Kept
pub mod Texts
pub mod JoinedSlots
pub mod Taken
