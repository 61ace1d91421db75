mod Filed
mod Walks
