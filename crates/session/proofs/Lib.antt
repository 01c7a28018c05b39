pub mod Entering
pub mod Alike
