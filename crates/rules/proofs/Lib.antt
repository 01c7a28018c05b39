pub mod Covering
pub mod RuleLaws
