pub mod Rules
pub mod Serving
pub mod Taking
