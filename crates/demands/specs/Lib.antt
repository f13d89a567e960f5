pub mod Promises
pub mod Kernel
pub mod Ours
pub mod Refusals
pub mod Runs
pub mod Demands
pub mod Labels
