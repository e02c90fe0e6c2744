pub mod Ushers
pub mod Kept
