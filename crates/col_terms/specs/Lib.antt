pub mod TermTable
pub mod Lookups
pub mod Streams
pub mod Building
pub mod Hashing
pub mod Laws
