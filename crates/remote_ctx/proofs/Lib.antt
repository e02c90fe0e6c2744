pub mod Fitting
pub mod Kept
pub mod Lookup
pub mod Placing
pub mod Quanta
pub mod Rising
pub mod Turning
pub mod Sums
