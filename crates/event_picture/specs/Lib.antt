pub mod Scales
pub mod Drawn
