pub mod Output
pub mod Text
pub mod Lengths
pub mod Answered
