pub mod Bare
pub mod Front
