pub mod Faults
pub mod Showing
-- what public clauses cite of the crates below
pub use Rattle.pf_core.specs.Durable.Changes
pub use Rattle.pf_disk.specs.Disk
pub use Rattle.pf_store.specs.Banks
pub use Rattle.pf_store.specs.Stores
