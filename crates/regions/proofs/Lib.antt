pub mod Common
pub mod Words
pub mod Rows
pub mod Tiles
pub mod LongRuns
pub mod Walks
pub mod Blocks
pub mod Cards
