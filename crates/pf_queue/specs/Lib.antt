pub mod Numbers
pub mod Answering
