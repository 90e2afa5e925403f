pub mod Refused
pub mod Findings
pub mod Staying
pub mod Keeping
pub mod Recording
