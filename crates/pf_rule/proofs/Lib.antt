pub mod ValueKept
pub mod HostKept
pub mod RuleBytes
pub mod Computed
pub mod Kept
pub mod RuleKept
pub mod Untabled
pub mod TextAnswers
