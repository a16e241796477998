pub mod FlatLaws
pub mod FaceCalls
