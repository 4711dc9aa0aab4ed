pub mod Remembering
pub mod Refining
pub mod Turns
