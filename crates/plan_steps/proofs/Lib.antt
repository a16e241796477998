pub mod InsertLaws
pub mod ArrangeLaws
pub mod HeldLaws
pub mod DistanceLaws
pub mod RowDistances
pub mod StepLaws
