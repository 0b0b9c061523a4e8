pub mod Durable
pub mod Refusals
pub mod Commands
pub mod Calls
pub mod Cores
pub mod Worlds
pub mod History
pub mod Nexts
pub mod WorldBooks
pub mod Laws
-- what public clauses cite of the crates below
pub use Rattle.pf_addr.specs.Path.Names
pub use Rattle.pf_addr.specs.Refusing
pub use Rattle.pf_anchor.specs.Configurations
pub use Rattle.pf_anchor.specs.Tables
pub use Rattle.pf_rule.specs.Packets
pub use Rattle.pf_state.specs.States
pub use Rattle.pf_state.specs.Steps
pub use Rattle.pf_table.specs.Edits
pub use Rattle.pf_table.specs.Entries
pub use Rattle.pf_table.specs.Tables as OneTable
pub use Rattle.pf_ticket.specs.Mentions
pub use Rattle.pf_ticket.specs.Replies
pub use Rattle.pf_ticket.specs.Tickets
