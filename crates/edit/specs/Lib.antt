pub mod Nodes
pub mod Apply
