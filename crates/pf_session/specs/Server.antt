pub mod Sittings
pub mod SessionRuns
pub mod Inquiries
pub mod Askings
pub mod AskingRuns
pub mod Streams
pub mod Parts
pub mod Judgings
