pub mod Signs
pub mod Grammar
pub mod Rests
