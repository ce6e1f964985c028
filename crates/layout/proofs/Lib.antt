pub mod Back
pub mod Both
pub mod Idle
pub mod Lent
pub mod Sizes
pub mod Whole
pub mod Zero
