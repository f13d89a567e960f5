pub mod Lines
pub mod Opening
