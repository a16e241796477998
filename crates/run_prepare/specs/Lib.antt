pub mod Prepared
pub mod Ready
pub mod RowsReady
