pub mod Gathering
pub mod ReadBack
