pub mod Rows
pub mod Calls
pub mod Serving
pub mod Moves
pub mod Rules
