-- What the rules mean: sets of facts, planning, waivers, listings, and what is proved of them.
pub mod Sets
pub mod Refusals
pub mod Steps
pub mod Places
pub mod Planning
pub mod Setters
pub mod Waivers
pub mod Checking
pub mod Listing
pub mod Theorems
pub mod Examples
