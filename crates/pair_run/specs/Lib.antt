pub mod Ports
pub mod Rounds
pub mod Calls
