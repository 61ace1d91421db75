pub mod Values
pub mod Program
pub mod Orders
pub mod Relay
