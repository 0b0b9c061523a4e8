pub mod Groups
pub mod Durables
pub mod Lengths
pub mod Snapshots
pub mod Stores
pub mod StoreFaults
pub mod StoreKept
pub mod Openings
pub mod Rooms
-- what public clauses use of the crates below
pub use Rattle.pf_disk.specs.Disk
pub use Rattle.pf_disk.specs.Runs
pub use Rattle.pf_journal.specs.Records
pub use Rattle.pf_snap.specs.Banks
pub use Rattle.pf_snap.specs.Faults
