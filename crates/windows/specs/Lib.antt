pub mod Offsets
pub mod Lows
pub mod Windows
