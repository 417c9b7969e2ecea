pub mod Categories
pub mod Footers
pub mod KeyTables
pub mod Laws
pub mod Put
