pub mod Moves
pub mod Reservations
