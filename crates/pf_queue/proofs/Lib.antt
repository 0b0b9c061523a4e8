pub mod Registering
pub mod Matching
