pub mod Numbers
pub mod Decided
pub mod Words
pub mod Pairs
pub mod Lists
pub mod Steps
pub mod Forms
pub mod Texts
