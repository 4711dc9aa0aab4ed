pub mod Lists
pub mod Notes
pub mod Turns
pub mod Copies
pub mod FieldUpdates
pub mod Loops
pub mod WholePause
pub mod Slides
