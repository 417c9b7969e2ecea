pub use Rattle.col_index.proofs.CountLaws
pub use Rattle.col_index.proofs.IndexedLaws
pub use Rattle.col_index.proofs.RowsLaws
pub use Rattle.col_index.proofs.RankLaws
pub mod CountedLemmas
pub mod SegmentCountLemmas
pub mod SegmentLemmas
pub mod UniformLemmas
mod StackedStartLemmas
mod NextRowLemmas
mod StackedWalkLemmas
mod StackedOffsetLemmas
mod StackedMergeLemmas
mod CollectedLemmas
mod ChangeLemmas
pub mod ShuffleLemmas
pub mod ValueCountLemmas
mod ByteCountLemmas
mod CheckLemmas
mod ListSpellingLemmas
mod SetSpellingLemmas
mod SpellingLemmas
mod WritingLemmas
mod RowWritingLemmas
mod RunLemmas
mod RunListLemmas
mod RunWalkLemmas
mod RunStackLemmas
mod FoundRunLemmas
mod HeldRunLemmas
pub mod TightestLemmas
pub mod MergeLemmas
mod RecordedLists
mod BuilderLemmas
mod FinishLemmas
