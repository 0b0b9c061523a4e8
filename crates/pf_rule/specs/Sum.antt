pub mod Forms
pub mod Layouts
pub mod Reading
