pub mod Texts
pub mod Fresh
