pub mod Stopping
pub mod Heap
pub mod Calling
pub mod Ops
pub mod Places
pub mod Windows
pub mod Blocks
