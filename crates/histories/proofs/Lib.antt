pub mod Each
mod Writing
mod Images
mod Fronts
mod Remembered
mod Holds
mod Steps
mod Settling
mod Waking
mod Calls
mod Histories
mod Shown
mod Ledgers
mod Theorem
pub mod Called
