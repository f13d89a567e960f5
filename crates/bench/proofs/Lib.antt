pub mod LineLaws
pub mod ShortLaws
pub mod FramingLaws
pub mod SessionLaws
pub mod PrintedLaws
pub mod OneOutcome
