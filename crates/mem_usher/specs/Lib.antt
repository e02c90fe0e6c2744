pub mod Best
pub mod Choices
