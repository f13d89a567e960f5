pub mod SmallLaws
pub mod PackLaws
pub mod Exports
