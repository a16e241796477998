pub mod Shapes
pub mod Boxing
