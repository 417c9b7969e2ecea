pub mod Ends
pub mod Places
pub mod Bars
pub mod BarsAt
pub mod FacetEnds
pub mod Described
