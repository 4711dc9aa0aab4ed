pub mod Samples
pub mod Copied
pub mod Evacuated
pub mod Filled
