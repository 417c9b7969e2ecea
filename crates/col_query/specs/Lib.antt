pub mod Laws
pub mod Named
pub mod Sets
pub mod Stacks
