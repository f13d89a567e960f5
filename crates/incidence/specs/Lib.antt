pub mod Cycles
pub mod Incidence
