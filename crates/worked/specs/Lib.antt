pub mod Sample
pub mod Walks
pub mod Routes
pub mod Forks
pub mod Texts
pub mod Cases
