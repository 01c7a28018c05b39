pub mod Members
pub mod Below
pub mod Searches
pub mod Fronts
