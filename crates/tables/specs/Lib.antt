pub mod Faults
pub mod Tables
pub mod ViewLaws
pub mod OwnLaws
