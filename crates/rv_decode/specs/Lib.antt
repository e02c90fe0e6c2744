pub mod Fields
pub mod Instructions
pub mod Operands
