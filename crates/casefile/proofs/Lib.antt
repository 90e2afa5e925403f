pub mod Chains
pub mod Reports
