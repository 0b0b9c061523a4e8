pub mod Running
pub mod Begun
pub mod Listening
pub mod FirstWords
pub mod DeniedCommands
mod LogLines
