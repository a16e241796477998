pub mod PartLaws
pub mod FillLaws
pub mod EntryLaws
pub mod GridLaws
