pub mod OnLiterals
mod Exports
mod Tables
mod ReadBackLemmas
mod ListLemmas
mod RecordLemmas
mod TurnLemmas
pub mod ValueLemmas
mod FieldLemmas
mod HeadingLemmas
mod HeaderLemmas
mod LeadBackLemmas
mod TableLemmas
mod ExactLemmas
mod HeldLemmas
mod SizeLemmas
mod SoundLemmas
