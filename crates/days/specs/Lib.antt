pub mod Entry
pub mod Events
pub mod Shop
