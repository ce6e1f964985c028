pub mod Rechild
pub mod All
