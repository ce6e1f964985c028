pub mod Rows
pub mod Read
pub mod Places
pub mod Storing
pub mod Keying
pub mod Determined
pub mod Promise
