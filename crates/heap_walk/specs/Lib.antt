pub mod Starts
pub mod Kept
pub mod Walks
pub mod Holders
pub mod Paths
pub mod Searching
