pub mod CommandList
pub mod WrittenOut
