pub mod Words
pub mod Cuts
pub mod Numbers
pub mod Forms
pub mod Readers
pub mod FaultsFound
pub mod Lists
