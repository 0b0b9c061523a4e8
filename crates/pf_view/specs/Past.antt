pub mod Pasts
pub mod Rules
-- what public contracts cite of the crates below
pub use Rattle.pf_core.specs.Durable.Changes
