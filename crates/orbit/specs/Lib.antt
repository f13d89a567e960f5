pub mod Store
pub mod Places
pub mod Walk
pub mod At
