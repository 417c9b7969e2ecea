pub mod Values
pub mod Forms
pub mod Numbers
pub mod Times
pub mod Addresses
pub mod Scalars
pub mod Documents
pub mod Read
