pub mod LineLaws
pub mod AheadLaws
pub mod MapLaws
pub mod FeedLaws
pub mod EndLaws
pub mod StepLaws
pub mod OneOutcome
pub mod RunLaws
