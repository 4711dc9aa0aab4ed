pub mod Evacuates
pub mod Space
pub mod Turns
pub mod Cursors
pub mod Rooms
pub mod Releasing
pub mod Sliding
