pub mod Lives
pub mod Faults
pub mod Quanta
pub mod Children
pub mod Taking
pub mod Applies
pub mod Plays
pub mod Statuses
