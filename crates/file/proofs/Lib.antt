pub mod SectionLaws
pub mod FormLaws
pub mod RecordLaws
pub mod FillLaws
pub mod LoadLaws
pub mod WrittenLaws
pub mod RoundTrip
pub mod ReadLaws
