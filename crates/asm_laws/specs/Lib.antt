pub mod Loaded
pub mod Worked
