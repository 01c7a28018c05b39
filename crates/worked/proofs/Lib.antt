pub mod SameLists
pub mod ShowExamples
