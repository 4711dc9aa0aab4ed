pub mod OpenBuffers
pub mod Placement
