pub mod Firsts
pub mod Columns
pub mod Texts
pub mod Sorts
