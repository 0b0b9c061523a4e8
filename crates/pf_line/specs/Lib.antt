pub mod Reply
pub mod Tickets
pub mod Entries
pub mod States
pub mod Grammar
pub mod Lines
pub mod Cutting
pub mod Laws
-- what public contracts cite of the crates below
pub use Rattle.pf_state.specs.Peer
pub use Rattle.pf_state.specs.Failover
pub use Rattle.pf_state.specs.States as StateTables
pub use Rattle.pf_state.specs.Steps
pub use Rattle.pf_form.specs.Form.Forms
pub use Rattle.pf_form.specs.Form.Words
pub use Rattle.pf_addr.specs.Laws.Spelling
pub use Rattle.pf_addr.specs.Writing
pub use Rattle.pf_state.specs.Peer.Written
pub use Rattle.pf_table.specs.Entries as TableEntries
