pub mod Order
pub mod Totals
