pub mod SizeLaws
pub mod RowLaws
