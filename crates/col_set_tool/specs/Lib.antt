pub mod SetOutcome
pub mod Reading
pub mod Runs
pub mod SetRuns
