mod Holding
mod Growing
mod Closing
mod Taken
mod Piping
mod Gives
