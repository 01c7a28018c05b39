pub mod Arrivals
pub mod Contents
pub mod Marks
pub mod MarkedContents
