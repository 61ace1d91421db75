pub mod Refusals
pub mod Worlds
pub mod Checks
pub mod Deliveries
