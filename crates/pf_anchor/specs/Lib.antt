pub mod Rulesets
pub mod Tables
pub mod Configurations
pub mod Forms
pub mod Limits
pub mod Matches
pub mod Evaluation
pub mod Answered
pub mod Known
pub mod Blocks
pub mod Laws
-- what public clauses cite of the crates below
pub use Rattle.pf_addr.specs.Refusing
pub use Rattle.pf_rule.specs.Rules
pub use Rattle.pf_map.specs.ListMaps
