pub mod DigitLaws
pub mod FiringLaws
pub mod RoomLaws
pub mod LineCalls
pub mod WithinLaws
