pub mod Orders
pub mod RowOrders
