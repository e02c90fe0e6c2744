pub mod Outside
pub mod Fails
pub mod Memory
