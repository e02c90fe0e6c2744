pub mod Before
pub mod Bests
pub mod Only
