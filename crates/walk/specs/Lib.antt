pub mod Sames
pub mod SameStates
pub mod Walks
pub mod Answers
pub mod WorkLists
pub mod Laws
