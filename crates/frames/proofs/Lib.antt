-- Lemmas on digits, numbers and frames.
pub mod Spelling
pub mod Words
pub mod Lengths
pub mod Decoding
pub mod Determined
pub mod Cuts
pub mod ReportLines
