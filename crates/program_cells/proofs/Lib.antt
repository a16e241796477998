pub mod CellLaws
pub mod RoomLaws
