pub mod Rounds
pub mod Selections
pub mod Laws
pub mod Sifteds
pub mod Candidates
pub mod Standings
