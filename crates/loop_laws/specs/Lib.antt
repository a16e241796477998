pub mod Passes
pub mod Sweeps
pub mod Standings
pub mod LoopTables
pub mod Stretches
