pub mod Merges
pub mod Weaves
