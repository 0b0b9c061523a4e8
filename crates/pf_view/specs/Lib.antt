pub mod Past
pub mod Sharing
pub mod Seers
pub mod Copies
-- what public contracts cite of the crates below
pub use Rattle.pf_core.specs.Durable.Changes
pub use Rattle.pf_rule.specs.Packets
