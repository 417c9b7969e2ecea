pub mod Again
pub mod Indexes
pub mod Upgrades
