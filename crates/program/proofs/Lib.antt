pub mod DecimalLaws
pub mod WriterLaws
pub mod LineLaws
pub mod OpeningLaws
pub mod AcceptLaws
pub mod InputLaws
