pub mod Kept
pub mod Placed
pub mod FormNode
pub mod Form
