pub mod TableLaws
pub mod ShapeLaws
pub mod DistanceLaws
pub mod RunLaws
