pub mod Configurations
pub mod Tables
pub mod Evaluation
