pub use Rattle.col_model.specs.Cells
pub use Rattle.col_model.specs.Stored
pub mod Kinds
pub mod Numbers
pub mod Usage
pub mod Laws
