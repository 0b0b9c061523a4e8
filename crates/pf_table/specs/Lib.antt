pub mod Entries
pub mod EntryForms
pub mod Tables
pub mod Edits
pub mod Noted
pub mod Indexed
pub mod Laws
-- what public clauses cite of the crates below
pub use Rattle.pf_addr.specs.Address
pub use Rattle.pf_addr.specs.Refusing
