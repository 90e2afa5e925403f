-- What deciders mean: their answers, the reaches of those that ship, and what is proved of them;
-- and, below Search, what the parts of a search promise each other.
pub mod Sizes
pub mod Sheets
pub mod Answers
pub mod Closures
pub mod Reaches
pub mod Reaching
pub mod Theorems
pub mod Search
