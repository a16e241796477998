pub mod Machine
pub mod Pace
