pub mod Frees
pub mod Opened
pub mod Copied
