pub mod Acts
pub mod Signals
