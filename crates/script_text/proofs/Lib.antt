pub mod Parts
pub mod Reading
pub mod Output
pub mod BothWays
pub mod Hinting
