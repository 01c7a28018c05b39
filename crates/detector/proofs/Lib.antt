pub mod EqualMeaning
