mod Faults
mod Numbers
mod Levels
mod Explained
mod Options
mod Paths
mod Shapes
