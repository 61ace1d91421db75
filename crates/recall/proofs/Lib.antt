mod Fetching
mod Loads
mod Slots
mod Bests
mod Origins
