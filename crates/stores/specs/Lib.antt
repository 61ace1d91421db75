pub mod Faults
pub mod Meaning
pub mod Calls
pub mod Laws
pub mod Slots
pub mod RecordStores
