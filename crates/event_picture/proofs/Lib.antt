pub mod Places
pub mod Drawings
