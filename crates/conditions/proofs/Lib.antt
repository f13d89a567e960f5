pub mod AimLaws
pub mod TreeLaws
pub mod HookLaws
pub mod SpanLaws
pub mod FaultLaws
pub mod SmallLaws
