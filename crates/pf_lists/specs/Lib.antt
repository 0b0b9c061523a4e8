pub mod Product
pub mod Hosts
pub mod Multiplied
