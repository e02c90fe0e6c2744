pub mod Lines
pub mod Behind
pub mod Sizes
pub mod Fields
pub mod Bytes
pub mod Pages
pub mod Loads
