pub mod Words
pub mod WordCases
