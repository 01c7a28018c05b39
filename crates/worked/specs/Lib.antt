pub mod Spelling
pub mod Lane
pub mod Free
pub mod Split
pub mod Key
pub mod NewBooks
pub mod Examples
