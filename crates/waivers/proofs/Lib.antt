pub mod Keep
pub mod Names
pub mod Losing
pub mod Largest
pub mod Noted
pub mod Turns
pub mod Searches
