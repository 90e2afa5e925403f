-- What the lines of a case file do, and what is reported of them.
pub mod Faults
pub mod Serving
pub mod Reporting
pub mod Chains
pub mod Desks
