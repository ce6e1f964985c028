pub mod Puts
pub mod Listed
pub mod Pieces
pub mod Given
pub mod Alone
