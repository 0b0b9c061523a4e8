pub mod Records
pub mod Groups
pub mod Messages
pub mod Streams
pub mod Outcomes
pub mod One
pub mod Written
