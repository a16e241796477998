pub mod FloatLaws
pub mod SumLaws
