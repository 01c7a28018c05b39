pub mod Reading
pub mod Refused
pub mod Commands
pub mod Laws
