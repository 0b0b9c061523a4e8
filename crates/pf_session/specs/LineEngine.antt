pub mod Chains
pub mod Lines
pub mod Sessions
pub mod Pieces
pub mod Intakes
