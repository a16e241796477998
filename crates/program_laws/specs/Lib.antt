pub mod Whole
pub mod Loops
