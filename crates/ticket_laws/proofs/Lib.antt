pub mod Deciding
pub mod Wholes
