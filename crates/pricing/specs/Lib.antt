pub mod Entries
pub mod Laid
pub mod Node
pub mod Best
pub mod Turn
pub mod Pass
pub mod Costs
