pub mod Opens
pub mod Priced
pub mod Cost
pub mod Form
