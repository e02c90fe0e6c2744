pub mod Machine
pub mod Going
pub mod Applying
pub mod Playing
