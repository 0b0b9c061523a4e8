pub mod Steps
pub mod Turns
pub mod InTurn
pub mod EntriesInTurn
pub mod Rules
pub mod Readers
pub mod Leniently
pub mod Beginnings
