pub mod Peer
pub mod Failover
pub mod Flows
pub mod FlowKeys
pub mod States
pub mod Dues
pub mod Ids
pub mod Orders
pub mod Steps
pub mod Bindings
pub mod Layouts
pub mod Laws
-- what public contracts cite of the crates below
pub use Rattle.pf_addr.specs.Address
pub use Rattle.pf_rule.specs.Bytes
pub use Rattle.pf_rule.specs.Value.Tests
