pub mod Cycling
pub mod Remarked
pub mod Settling
pub mod Forgetting
pub mod Releasing
pub mod Cleaning
