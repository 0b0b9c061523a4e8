pub mod Loading
-- what public contracts cite of the crates below
pub use Rattle.pf_addr.specs.Writing
