pub mod Keys
pub mod Places
pub mod Merging
pub mod Moves
pub mod Numbering
