pub mod FiniteLaws
