pub mod Reports
pub mod Rebalances
pub mod Briefs
pub mod Standing
pub mod Lasting
