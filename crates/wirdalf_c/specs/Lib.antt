pub mod Answers
pub mod Codes
pub mod Owned
pub mod Images
pub mod Lending
pub mod Lines
pub mod Packets
pub mod Verdicts
