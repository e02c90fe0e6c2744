pub mod Pages
pub mod Tree
pub mod Entries
