pub mod Values
pub mod Tests
pub mod Ports
pub mod Spacing
pub mod Written
