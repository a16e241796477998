pub mod LayLaws
pub mod RowsLaws
pub mod WriteCalls
pub mod Written
