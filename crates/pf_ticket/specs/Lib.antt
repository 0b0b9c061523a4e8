pub mod Names
pub mod NamedTables
pub mod Tickets
pub mod Mentions
pub mod Replies
pub mod Laws
-- what public clauses cite of the crates below
pub use Rattle.pf_addr.specs.Path.Names as AddrNames
pub use Rattle.pf_addr.specs.Refusing
pub use Rattle.pf_table.specs.Edits
pub use Rattle.pf_table.specs.Entries
pub use Rattle.pf_map.specs.Maps
