pub mod Graph
pub mod Machine
pub mod Classes
pub mod Forced
