pub mod ClassWalk
pub mod ClassCount
pub mod ClassHeld
pub mod Checks
pub mod Checked
pub mod Going
pub mod Ops
pub mod Lists
