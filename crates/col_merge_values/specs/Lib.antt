pub mod Merges
pub mod TermColumns
pub mod Picked
pub mod Laws
