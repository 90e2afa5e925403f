-- Lemmas of the deciders.
pub mod Sizes
pub mod Chains
pub mod Actions
pub mod Climbs
pub mod Sheets
pub mod Settled
pub mod Closures
pub mod Forwards
pub mod Backwards
