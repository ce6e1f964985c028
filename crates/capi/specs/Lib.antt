pub mod Spoken
pub mod Answered
pub mod NodeTold
pub mod Needs
