pub mod Present
pub mod Ends
