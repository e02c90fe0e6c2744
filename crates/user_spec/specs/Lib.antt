pub mod Words
pub mod User
pub mod Instruction
pub mod Request
pub mod Advance
pub mod Fits
