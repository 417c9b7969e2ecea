pub mod RowIds
pub mod Segments
pub mod Live
pub mod Found
pub mod Files
pub mod Compaction
