pub use Rattle.col_model.specs.Codes
pub mod Values
pub mod Bounds
pub mod Monotonic
pub mod Laws
