pub mod Words
pub mod Nodes
pub mod Donors
pub mod Arcs
pub mod Targets
pub mod Reading
