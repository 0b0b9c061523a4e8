pub mod Wanted
pub mod Commands
pub mod Worlds
pub mod Groups
pub mod Durable
pub mod Openings
