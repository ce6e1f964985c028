pub mod Words
pub mod Turns
pub mod Walks
pub mod Forest
pub mod Sound
pub mod Changes
pub mod Promise
