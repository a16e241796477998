pub mod CaseCalls
pub mod CompareLaws
