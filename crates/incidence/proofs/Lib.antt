pub mod FoundLaws
pub mod IncidenceLaws
pub mod CycleTestLaws
pub mod CycleSearchLaws
pub mod CycleIsLaws
pub mod FaultLaws
