pub mod Arcs
pub mod Tree
pub mod Hook
pub mod Verdict
