pub mod Behind
pub mod Demands
