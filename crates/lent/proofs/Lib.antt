pub mod Totals
pub mod Matrices
pub mod Ordered
pub mod Listed
