pub mod Laws
pub mod Verdicts
