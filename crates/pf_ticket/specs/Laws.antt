pub mod Names
pub mod Tickets
