pub mod FreshLaws
pub mod OrbitsLaws
pub mod CellKindLaws
