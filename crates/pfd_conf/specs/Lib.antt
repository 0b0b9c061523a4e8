pub mod Case
pub mod Taking
pub mod Firewalls
pub mod Outcomes
pub mod Reports
pub mod Junit
pub mod Covering
pub mod Explaining
-- what public clauses cite of the crates below
pub use Rattle.pf_form.specs.Form
pub use Rattle.pf_addr.specs.Writing
pub use Rattle.pf_conf.specs.Resolving
pub use Rattle.pf_conf.specs.Shown
