pub mod Interfaces
pub mod Numbers
pub mod Named
pub mod Ports
pub mod Addresses
