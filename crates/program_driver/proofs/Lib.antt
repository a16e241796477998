pub mod CellLaws
pub mod RunLaws
pub mod StepLaws
pub mod RoomLaws
