pub mod Refusals
pub mod Changes
pub mod ChangeViews
pub mod Forms
