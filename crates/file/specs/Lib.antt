pub mod Sections
pub mod Form
pub mod Records
