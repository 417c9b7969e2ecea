pub use Rattle.col_merge_texts.specs.Merged
pub use Rattle.col_merge_texts.specs.Items
pub use Rattle.col_merge_values.specs.Merges
pub mod Limits
pub mod Joins
pub mod Slots
pub mod TextSlots
