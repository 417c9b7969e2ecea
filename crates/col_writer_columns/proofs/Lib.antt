mod CutLemmas
mod PostedLemmas
mod TypeListLemmas
pub mod NumericalLemmas
pub mod EntryLemmas
pub mod TypingLemmas
pub mod TextLemmas
mod CardinalityLemmas
mod OperationLemmas
mod SortedLemmas
mod KeyLemmas
mod OrderLemmas
mod FirstLemmas
mod KeyedLemmas
mod DocsLemmas
pub mod TermBytesLemmas
mod SoundLemmas
