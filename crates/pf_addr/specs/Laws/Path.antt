pub mod Names
pub mod Paths
pub mod References
pub mod Nested
