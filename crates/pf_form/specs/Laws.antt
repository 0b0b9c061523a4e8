pub mod Form
pub mod Bytes
