pub mod Documents
pub mod RowOrders
pub mod Rows
pub mod Counted
pub mod Terms
