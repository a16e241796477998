pub mod EntryLaws
pub mod FactorLaws
pub mod FieldLaws
