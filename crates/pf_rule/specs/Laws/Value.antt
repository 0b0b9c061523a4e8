pub mod Reading
pub mod Ports
pub mod Tests
pub mod Labels
