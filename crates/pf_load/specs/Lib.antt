pub mod Files
pub mod Changes
pub mod Served
pub mod Laws
-- what public contracts cite of the crates below
pub use Rattle.pf_addr.specs.Writing
pub use Rattle.pf_addr.specs.Path.Paths
pub use Rattle.pf_form.specs.Form.Words
pub use Rattle.pf_rule.specs.RuleText
pub use Rattle.pf_ticket.specs.Names
pub use Rattle.pf_core.specs.Commands
pub use Rattle.pf_core.specs.Durable.Changes as DurableChanges
