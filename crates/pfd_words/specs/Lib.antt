pub mod Parameters
pub mod Subcommands
pub mod Options
pub mod Conf
pub mod Words
