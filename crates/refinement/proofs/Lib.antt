pub mod Entered
pub mod Remembered
pub mod Holders
pub mod Fields
pub mod Scanned
pub mod Counted
pub mod Turns
pub mod Taken
