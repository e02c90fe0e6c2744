pub mod Pids
pub mod Processes
pub mod Io
pub mod Kernel
pub mod Calls
pub mod Answers
pub mod Others
pub mod Waiting
