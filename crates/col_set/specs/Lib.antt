pub use Rattle.col_segments.specs.Compaction
pub use Rattle.col_segments.specs.Segments
pub use Rattle.col_segments.specs.Found
pub use Rattle.col_segments.specs.Live
pub mod Held
pub mod Sets
