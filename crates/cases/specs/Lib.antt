-- What a case holds, what its calls do, what find and the plan check say, and the law over lists of
-- calls.
pub mod Plain
pub mod Calls
pub mod Refusing
pub mod Slips
pub mod State
pub mod Finding
pub mod Checks
pub mod Making
pub mod Replay
pub mod Law
pub mod Theorems
