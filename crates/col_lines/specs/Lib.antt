pub mod Parts
pub mod Plain
pub mod RowOrders
pub mod Lines
