pub mod Both
pub mod Host
pub mod Words
