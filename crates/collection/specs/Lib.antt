pub mod Asked
pub mod Markings
pub mod Numbers
pub mod Rooms
pub mod Space
pub mod Steps
