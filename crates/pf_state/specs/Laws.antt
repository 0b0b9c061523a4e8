pub mod States
pub mod Failover
pub mod Messages
pub mod Layouts
