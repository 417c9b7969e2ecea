pub mod Crash
pub mod Disks
pub mod History
pub mod DiskLaws
