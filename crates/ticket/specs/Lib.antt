pub mod Faults
pub mod Kinds
pub mod Texts
pub mod Said
pub mod Answers
pub mod Steps
