pub mod Moments
mod Rates
pub mod Courses
mod Drawn
mod FileNames
mod Redrawn
pub mod NamedRoots
pub mod Tellings
pub mod Shown
