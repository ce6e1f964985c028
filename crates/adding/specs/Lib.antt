pub mod Says
pub mod Asking
pub mod Giving
