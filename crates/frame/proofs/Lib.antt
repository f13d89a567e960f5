pub mod OptionLaws
pub mod PlaceLaws
pub mod FrameLaws
