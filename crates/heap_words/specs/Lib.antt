pub mod Headers
pub mod Contents
pub mod Memory
pub mod Configs
pub mod Sizes
