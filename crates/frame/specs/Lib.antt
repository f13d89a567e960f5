pub mod Place
pub mod Nodes
pub mod Frame
