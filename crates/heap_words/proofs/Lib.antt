pub mod Codec
pub mod Blocks
pub mod Limits
pub mod Cut
