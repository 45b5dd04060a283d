pub mod HouseCards
pub mod Meanings
pub mod Views
