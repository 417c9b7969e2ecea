pub mod OnLiterals
mod RunForms
mod Runs
mod RefusedRuns
mod CheckRuns
mod Gen
mod Words
mod QuestionRuns
pub mod ScriptLaws
pub mod ReportLaws
