pub mod RowsLaws
pub mod BesideLaws
pub mod RawLaws
pub mod SideLaws
pub mod SameLaws
pub mod PieceLaws
pub mod RoundLaws
pub mod WholeLaws
