-- What case files and report lines mean, byte by byte.
pub mod Digits
pub mod Kinds
pub mod Numbers
pub mod Frames
pub mod Texts
pub mod Reports
pub mod Theorems
