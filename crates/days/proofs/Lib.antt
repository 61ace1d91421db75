mod Splits
mod Words
mod Carrying
