pub mod Processes
pub mod Tree
pub mod Steps
