pub mod StoreLaws
pub mod WalkLaws
pub mod PlaceLaws
