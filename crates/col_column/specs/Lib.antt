pub use Rattle.col_indexer.specs.Versions
pub use Rattle.col_numbers.specs.declared.num_values.NumValues as NumValuesType
pub use Rattle.col_numbers.specs.NumValues
pub use Rattle.col_indexer.specs.Indexes
pub use Rattle.col_indexer.specs.Offsets
pub use Rattle.col_numbers.specs.Coercions
pub use Rattle.col_indexer.specs.CardinalityVariants
pub use Rattle.col_indexer.specs.CardinalityType
pub use Rattle.col_indexer.specs.Sets
pub use Rattle.col_indexer.specs.Spelling
pub use Rattle.col_indexer.specs.Written as IndexerWritten
pub use Rattle.col_indexer.specs.Counted
pub mod Columns
pub mod IpValues
pub mod Laws
pub mod Lookups
pub mod Opened
pub mod Written
