pub mod Cards
pub mod Forks
pub mod Loaded
