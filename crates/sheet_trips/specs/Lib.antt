pub mod RoundTrips
pub mod Arriving
pub mod Names
