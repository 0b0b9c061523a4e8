pub mod BasicForms
pub mod Forms
pub mod Lists
pub mod Names
pub mod Readers
pub mod Codes
