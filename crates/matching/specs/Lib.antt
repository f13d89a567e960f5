pub mod Retrace
pub mod Images
pub mod ArcTests
pub mod Assign
