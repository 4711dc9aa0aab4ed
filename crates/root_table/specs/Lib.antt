pub mod Roots
pub mod Bounds
pub mod Numbers
