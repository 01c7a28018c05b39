pub mod Standstill
pub mod Meaning
