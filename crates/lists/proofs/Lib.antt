pub mod Members
pub mod BelowFacts
pub mod Chains
pub mod Searches
pub mod Fronts
pub mod Laying
