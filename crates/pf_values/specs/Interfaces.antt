pub mod Interfaces
pub mod Mentions
pub mod Hosts
pub mod Addresses
pub mod Laws
