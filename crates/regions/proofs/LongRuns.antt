pub mod RunWrites
pub mod RunWritten
pub mod RunRows
pub mod RunMade
pub mod RunGone
pub mod Blocks
pub mod RunLaws
pub mod RunMoved
