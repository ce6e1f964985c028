pub mod Near
pub mod Says
pub mod Merge
pub mod Merging
pub mod Joining
pub mod Uniting
