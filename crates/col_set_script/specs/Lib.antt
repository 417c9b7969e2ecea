pub mod SetScripts
pub mod Steps
pub mod Lines
pub mod Drafts
