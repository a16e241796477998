pub mod WordLaws
pub mod KernelLaws
