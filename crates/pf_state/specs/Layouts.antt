pub mod Flows
pub mod States
pub mod Steps
pub mod Rows
