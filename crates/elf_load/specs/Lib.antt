pub mod Image
pub mod Faults
pub mod Parts
