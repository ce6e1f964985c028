pub mod Way
pub mod Kids
pub mod State
pub mod Step
pub mod Walk
