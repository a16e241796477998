pub mod PieceLaws
pub mod ArrivingLaws
pub mod LineLaws
