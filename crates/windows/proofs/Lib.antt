pub mod OffsetLaws
pub mod LowLaws
pub mod IndexLaws
pub mod SumLaws
