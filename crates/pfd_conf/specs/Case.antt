pub mod Cases
pub mod Matches
-- what public clauses cite of the crates below
pub use Rattle.pf_form.specs.Form
pub use Rattle.pf_rule.specs.RuleGrammar
pub use Rattle.pf_rule.specs.PacketGrammar
pub use Rattle.pf_rule.specs.Refusals
