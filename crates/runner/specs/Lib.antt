pub mod Loops
pub mod Stretching
pub mod ByRows
pub mod Clocks
pub mod Runs
