pub mod Scripts
pub mod Journals
pub mod Turns
pub mod Interleavings
pub mod Draws
pub mod Rounds
