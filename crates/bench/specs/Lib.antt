pub mod Bench
pub mod Input
pub mod Session
