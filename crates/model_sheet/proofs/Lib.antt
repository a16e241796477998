pub mod NameLaws
pub mod NumberLaws
