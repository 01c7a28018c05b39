pub mod Parts
pub mod Learns
pub mod Learneds
pub mod Standings
pub mod Laws
