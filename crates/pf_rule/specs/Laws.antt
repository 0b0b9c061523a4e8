pub mod Matching
pub mod RuleText
pub mod Sums
pub mod Value
pub mod Host
