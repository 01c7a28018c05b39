pub mod Sameness
pub mod Arrivals
mod Places
pub mod Growth
pub mod Listings
pub mod Fronts
pub mod MarkLaws
