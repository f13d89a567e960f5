pub mod Darts
pub mod Slots
pub mod Links
pub mod Room
