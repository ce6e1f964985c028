pub mod Changed
pub mod Drawn
