pub mod Glides
