pub mod NodeLaws
pub mod ApplyLaws
pub mod SiteLaws
