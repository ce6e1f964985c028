pub mod Known
pub mod Roots
pub mod Store
pub mod Enter
pub mod Link
pub mod Push
pub mod Connect
pub mod Grow
