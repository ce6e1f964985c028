pub mod Standing
pub mod Buckets
pub mod Table
pub mod Keys
pub mod Entering
pub mod Leaving
pub mod Seeking
pub mod Asking
