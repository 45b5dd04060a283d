pub mod Lent
pub mod Matrix
pub mod Grid
pub mod List
pub mod Held
