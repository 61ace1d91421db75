mod Channels
mod Moves
mod Settling
