pub mod Forms
pub mod Roots
pub mod Actors
pub mod Faults
