pub mod Merging
pub mod Newest
pub mod Honesty
