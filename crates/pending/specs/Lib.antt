pub mod Stack
pub mod Promise
pub mod Stands
pub mod Moves
