pub mod Mutating
pub mod Cycles
pub mod Pauses
pub mod Cores
pub mod Measuring
pub mod Objects
