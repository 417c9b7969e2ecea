pub use Rattle.col_model.specs.Coercions
pub mod CodecTypes
pub mod Estimators
pub mod Readers
pub mod Views
pub mod NumValues
pub mod Written
