pub mod Covers
pub mod AllMoves
pub mod Tables
pub mod Going
pub mod Marks
pub mod Picked
pub mod Largest
