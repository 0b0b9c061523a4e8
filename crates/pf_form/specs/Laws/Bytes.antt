pub mod Steps
pub mod BasicForms
pub mod Joined
pub mod Forms
pub mod Onto
pub mod Lengths
pub mod Texts
pub mod Codes
