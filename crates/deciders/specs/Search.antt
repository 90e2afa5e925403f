-- What the parts of a search promise each other. No contract of a decider speaks of it.
pub mod Rows
pub mod Chains
pub mod Struck
pub mod Searches
