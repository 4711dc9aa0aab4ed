pub mod State
pub mod Machine
pub mod Run
pub mod Since
pub mod Sparing
