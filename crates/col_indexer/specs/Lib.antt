pub use Rattle.col_index.specs.Appending
pub use Rattle.col_index.specs.Versions
pub use Rattle.col_index.specs.Offsets
pub use Rattle.col_index.specs.Indexes
pub use Rattle.col_index.specs.Sets
pub use Rattle.col_index.specs.declared.cardinality.Cardinality.TheVariants as CardinalityVariants
pub use Rattle.col_index.specs.declared.cardinality.Cardinality as CardinalityType
pub mod Spelling
pub mod Runs
pub mod Counted
pub mod Merged
pub mod Stacks
pub mod Shuffles
pub mod RowViews
pub mod OffsetViews
pub mod Written
pub mod Builders
pub mod WritingLaws
