pub mod Cells
pub mod Facets
pub mod Listed
pub mod Ranked
pub mod Tables
pub mod Values
