pub mod Copy
pub mod Refill
pub mod Says
pub mod Class
pub mod Classing
pub mod Classes
