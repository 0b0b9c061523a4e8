mod PathTexts
pub mod NamesRead
pub mod PathsRead
pub mod ReferencesRead
pub mod PathBytes
pub mod Nesting
pub mod Numbers
pub mod ClearedBits
pub mod Writers
pub mod Addresses
pub mod FaultsReported
pub mod NameFaultsReported
pub mod FirstBytes
