-- A problem with its known groups, and what the search for a smallest good set says.
pub mod Faults
pub mod Known
pub mod Changes
pub mod NewGroup
pub mod Noting
pub mod Searching
pub mod Wiping
pub mod Examples
